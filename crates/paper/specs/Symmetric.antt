-- Document 001, sections 2.5.4 and 2.5.5: the primitives of category I with their selectors, and the seed routines (algorithms 17 to 20).
-- Definitions only.
use Rattle.std.specs.Prelude.{List, [], ◌∷◌, ◌++◌, ℕ, ◌+◌, ◌*◌, ◌/◌}
use Rattle.octets.specs.Xor.{xor_b}
use Rattle.octets.specs.Lists.{vec, part, joined, bytes_of}
use Rattle.aes.specs.Cipher.{aes128}
use Rattle.shake.specs.Shake.{shake128}

-- ---- the selectors, indexed by purpose

-- nine of the sponge (2.5.5, "Domain separation"), then four of the tweak (2.5.4)
unfoldable pub selectors : List ℕ
selectors = 0 ∷ 1 ∷ 2 ∷ 3 ∷ 4 ∷ 5 ∷ 6 ∷ 7 ∷ 8 ∷ 0 ∷ 1 ∷ 2 ∷ 3 ∷ []

-- XOF_0 and on: expansion of seed_key, expansion of seed_eq, message hash, commitment of α_0 and α_1, Fiat-Shamir hash, challenge sampling,
-- commitment of leaf commitments, BLC commitment, Γ
abbrev pub for_key : ℕ
for_key = 0

abbrev pub for_equations : ℕ
for_equations = 1

abbrev pub for_message : ℕ
for_message = 2

abbrev pub for_alphas : ℕ
for_alphas = 3

abbrev pub for_transcript : ℕ
for_transcript = 4

abbrev pub for_challenge : ℕ
for_challenge = 5

abbrev pub for_leaves : ℕ
for_leaves = 6

abbrev pub for_commitment : ℕ
for_commitment = 7

abbrev pub for_gamma : ℕ
for_gamma = 8

-- the two halves of SeedCommit, SeedDerive in a tree, PRG
abbrev pub commit_first : ℕ
commit_first = 9

abbrev pub commit_second : ℕ
commit_second = 10

abbrev pub derive : ℕ
derive = 11

abbrev pub expand : ℕ
expand = 12

unfoldable pub selector : ℕ → ℕ
selector purpose = vec selectors purpose

-- ---- the primitives (table 4, category I)

unfoldable pub enc : List ℕ → List ℕ → List ℕ
enc key ptx = aes128 key ptx

-- XOF_i, i the purpose's selector; lengths are in bytes
unfoldable pub xof : ℕ → List ℕ → ℕ → List ℕ
xof purpose m len = shake128 (selector purpose ∷ m) len

-- Hash_i: 2 λ bits
unfoldable pub hash : ℕ → List ℕ → List ℕ
hash purpose m = xof purpose m 32

-- ---- seeds

-- algorithm 17: Bits_λ (sel + 4 e + 256 j) added to the salt
unfoldable pub tweak_salt : List ℕ → ℕ → ℕ → ℕ → List ℕ
tweak_salt salt purpose e j = xor_b salt (bytes_of 16 (selector purpose + 4 * e + 256 * j))

-- ψ, equation (13): of the halves x_L, x_R it makes x_L + x_R, x_L
unfoldable pub psi : List ℕ → List ℕ
psi s = xor_b (part 0 8 s) (part 8 8 s) ++ part 0 8 s

-- algorithm 18: encryption with feed-forward
unfoldable pub seed_derive : List ℕ → List ℕ → List ℕ
seed_derive tweaked_salt seed = xor_b (enc tweaked_salt seed) (psi seed)

-- algorithm 19: the second half's key differs from the first's by Bits_λ (1)
unfoldable pub seed_commit : List ℕ → List ℕ → List ℕ
seed_commit tweaked_salt seed = seed_derive tweaked_salt seed ++ seed_derive (xor_b tweaked_salt (bytes_of 16 1)) seed

-- algorithm 20
unfoldable pub prg_block : List ℕ → ℕ → List ℕ → ℕ → List ℕ
prg_block salt e seed i = seed_derive (tweak_salt salt expand e i) seed

unfoldable pub prg : List ℕ → ℕ → List ℕ → ℕ → List ℕ
prg salt e seed n_bytes = part 0 n_bytes (joined ((n_bytes + 15) / 16) (prg_block salt e seed))
