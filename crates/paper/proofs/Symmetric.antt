-- All that the scheme's laws use of AES and SHAKE: lengths, and that outputs are bytes; and that the selectors differ. Assumes nothing.
use mathlib.Core.Path.{◌≡◌, sym, ap₂, ◌∙◌}
use mathlib.Core.List.{List}
use Prim.Native.Nat.{ℕ, ◌+◌, ◌/◌, ◌<◌}
use native.Mathlib.Omega.{arith}
use mathlib.Core.Bool.{Bool}
use lib.Dec.{T, eqb, eqb→eq}
use Rattle.field.proofs.Linear.{below, below_at}
use lib.ListN.{length, length-append}
use Rattle.octets.specs.Xor.{xor_b}
use Rattle.octets.specs.Lists.{Bytes, part, joined, vec}
use Rattle.octets.proofs.Xor.{length-xor_b}
use Rattle.octets.proofs.Part.{length_part, length-joined}
use Rattle.octets.proofs.Bounds.{bytes-append, bytes-part, bytes-joined, bytes-xor_b, bytes-bytes_of}
use Rattle.aes.proofs.Bounds.{length-aes128, bytes-aes128}
use Rattle.shake.proofs.Shake.{length-shake128, bytes-shake128}
use Rattle.paper.specs.Symmetric.{selectors, enc, xof, hash, tweak_salt, psi, seed_derive, seed_commit, prg_block, prg, expand, selector, for_key, commit_first}

-- ---- Enc and XOF

pub length-enc : (k p : List ℕ) → length (enc k p) ≡ 16
unfolding enc
length-enc k p = length-aes128 k p

pub bytes-enc : (k x : List ℕ) → Bytes k → Bytes (enc k x)
unfolding enc
bytes-enc k x p = bytes-aes128 k x p

pub length-xof : (u : ℕ) (m : List ℕ) (d : ℕ) → length (xof u m d) ≡ d
unfolding xof
length-xof u m d = length-shake128 _ d

pub bytes-xof : (u : ℕ) (m : List ℕ) (d : ℕ) → Bytes (xof u m d)
unfolding xof
bytes-xof u m d = bytes-shake128 _ d

pub length-hash : (u : ℕ) (m : List ℕ) → length (hash u m) ≡ 32
unfolding hash
length-hash u m = length-xof u m 32

pub bytes-hash : (u : ℕ) (m : List ℕ) → Bytes (hash u m)
unfolding hash
bytes-hash u m = bytes-xof u m 32

-- ---- seeds

pub length-psi : (s : List ℕ) → length s ≡ 16 → length (psi s) ≡ 16
unfolding psi
length-psi s h =
    length-append (xor_b (part 0 8 s) (part 8 8 s)) (part 0 8 s)
    ∙ ap₂ ◌+◌ (length-xor_b 8 _ _ (length_part 0 8 s (omega arith)) (length_part 8 8 s (omega arith))) (length_part 0 8 s (omega arith))

pub length-derive : (t s : List ℕ) → length s ≡ 16 → length (seed_derive t s) ≡ 16
unfolding seed_derive
length-derive t s h = length-xor_b 16 (enc t s) (psi s) (length-enc t s) (length-psi s h)

pub length-commit : (t s : List ℕ) → length s ≡ 16 → length (seed_commit t s) ≡ 32
unfolding seed_commit
length-commit t s h = length-append (seed_derive t s) _ ∙ ap₂ ◌+◌ (length-derive t s h) (length-derive _ s h)

pub length-prg_block : (salt : List ℕ) (e : ℕ) (s : List ℕ) (i : ℕ) → length s ≡ 16 → length (prg_block salt e s i) ≡ 16
unfolding prg_block
length-prg_block salt e s i h = length-derive (tweak_salt salt expand e i) s h

pub length-prg : (salt : List ℕ) (e : ℕ) (s : List ℕ) (n : ℕ) → length s ≡ 16 → length (prg salt e s n) ≡ n
unfolding prg
length-prg salt e s n h =
    length_part 0 n (joined ((n + 15) / 16) (prg_block salt e s))
    (omega (arith, length-joined ((n + 15) / 16) 16 (prg_block salt e s) (λ i hi. length-prg_block salt e s i h)))

pub bytes-tweak : (salt : List ℕ) (p : ℕ) (e j : ℕ) → Bytes salt → Bytes (tweak_salt salt p e j)
unfolding tweak_salt
bytes-tweak salt p e j q = bytes-xor_b salt _ q (bytes-bytes_of 16 _)

pub bytes-derive : (t s : List ℕ) → Bytes t → Bytes s → Bytes (seed_derive t s)
unfolding seed_derive psi
bytes-derive t s p q =
    bytes-xor_b (enc t s) _ (bytes-enc t s p)
    (bytes-append _ _ (bytes-xor_b _ _ (bytes-part 0 8 s q) (bytes-part 8 8 s q)) (bytes-part 0 8 s q))

pub bytes-commit : (t s : List ℕ) → Bytes t → Bytes s → Bytes (seed_commit t s)
unfolding seed_commit
bytes-commit t s p q = bytes-append _ _ (bytes-derive t s p q) (bytes-derive _ s (bytes-xor_b t _ p (bytes-bytes_of 16 1)) q)

pub bytes-prg_block : (salt : List ℕ) (e : ℕ) (s : List ℕ) (i : ℕ) → Bytes salt → Bytes s → Bytes (prg_block salt e s i)
unfolding prg_block
bytes-prg_block salt e s i p q = bytes-derive _ s (bytes-tweak salt expand e i p) q

pub bytes-prg : (salt : List ℕ) (e : ℕ) (s : List ℕ) (n : ℕ) → Bytes salt → Bytes s → Bytes (prg salt e s n)
unfolding prg
bytes-prg salt e s n p q = bytes-part 0 n _ (bytes-joined _ _ (λ i hi. bytes-prg_block salt e s i p q))

-- ---- selectors: from place a on, n of them count up from 0, so that they differ

counts : ℕ → ℕ → Bool
counts a n = below n (λ i. eqb (vec selectors (a + i)) i)

counted : (a n : ℕ) → T (counts a n) → (i : ℕ) → i < n → selector (a + i) ≡ i
unfolding counts selector
counted a n t i h = eqb→eq _ _ (below_at n (λ i. eqb (vec selectors (a + i)) i) t i h)

differ : (a n : ℕ) → T (counts a n) → (i j : ℕ) → i < n → j < n → selector (a + i) ≡ selector (a + j) → i ≡ j
differ a n t i j hi hj e = sym (counted a n t i hi) ∙ e ∙ counted a n t j hj

-- the nine of the sponge, and the four of the tweak
pub hash-selectors-differ : (i j : ℕ) → i < 9 → j < 9 → selector (for_key + i) ≡ selector (for_key + j) → i ≡ j
unfolding counts selectors
hash-selectors-differ = differ 0 9 tt

pub tweak-selectors-differ : (i j : ℕ) → i < 4 → j < 4 → selector (commit_first + i) ≡ selector (commit_first + j) → i ≡ j
unfolding counts selectors
tweak-selectors-differ = differ 9 4 tt
