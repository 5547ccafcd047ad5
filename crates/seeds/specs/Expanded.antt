-- The seed routines of document 001 (2.5.4) under keys that are expanded once and used for many seeds. Definitions only.
use Rattle.std.specs.Prelude.{List, [], ◌∷◌, ℕ, ◌*◌}
use Rattle.octets.specs.Xor.{xor_b}
use Rattle.octets.specs.Lists.{vec, part, joined, zero16}
use Rattle.aes.specs.Cipher.{cipher, expand_key}
use Rattle.paper.specs.Symmetric.{psi, tweak_salt, commit_first, commit_second, derive, expand}

-- SeedDerive (18) under the expanded key w
unfoldable pub derive_with : List ℕ → List ℕ → List ℕ
derive_with w seed = xor_b (cipher w seed) (psi seed)

-- key k of keys that lie end to end, 176 bytes each
unfoldable pub key_at : List ℕ → ℕ → List ℕ
key_at keys k = part (176 * k) 176 keys

-- the keys of PRG (0, 0, .), expanded: as many as an equation has blocks
unfoldable pub plain_keys : List ℕ
plain_keys = joined 104 (λ i. expand_key (tweak_salt zero16 expand 0 i))

-- the twelve keys of tree e: derivation at layers 1 to 7, the two halves of a commitment, three blocks of PRG
unfoldable pub tree_purposes : List ℕ
tree_purposes =
    derive ∷ derive ∷ derive ∷ derive ∷ derive ∷ derive ∷ derive ∷ commit_first ∷ commit_second ∷ expand ∷ expand ∷ expand ∷ []

unfoldable pub tree_layers : List ℕ
tree_layers = 1 ∷ 2 ∷ 3 ∷ 4 ∷ 5 ∷ 6 ∷ 7 ∷ 0 ∷ 0 ∷ 0 ∷ 1 ∷ 2 ∷ []

unfoldable pub tree_key : List ℕ → ℕ → ℕ → List ℕ
tree_key salt e k = expand_key (tweak_salt salt (vec tree_purposes k) e (vec tree_layers k))

unfoldable pub tree_keys : List ℕ → ℕ → List ℕ
tree_keys salt e = joined 12 (tree_key salt e)
