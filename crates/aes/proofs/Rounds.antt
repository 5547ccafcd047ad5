-- A round on columns is FIPS 197's round on bytes. Assumes nothing.
use mathlib.Core.Path.{◌≡◌, ap, ap₂, ◌∙◌, sym}
use mathlib.Core.List.{List, [], ◌∷◌, ◌++◌}
use Prim.Native.Nat.{ℕ, suc, ◌+◌, ◌*◌, ◌/◌, ◌%◌, ◌<◌}
use native.Mathlib.Omega.{arith}
use lib.Bits.{bit_xor}
use Rattle.octets.specs.Lists.{vec, tab, part, joined, bytes_of}
use Rattle.octets.specs.Xor.{xor_b}
use Rattle.aes.specs.declared.Cols.{Cols}
use Rattle.aes.specs.Sbox.{sbox}
use Rattle.aes.specs.Cipher.{sub_bytes, shift_rows, mix_column, mix_columns, add_round_key, rounds, cipher}
use Rattle.aes.specs.Words.{block_of, spread, Table}
use Rattle.aes.proofs.Words.{rows, bytes-xor}
use Rattle.aes.proofs.Blocks.{parts}

-- ---- what the table gives

-- the bytes of a sum of five columns, of which four are known
sums : (a b c d k : ℕ) (p q r s : List ℕ) → bytes_of 4 a ≡ p → bytes_of 4 b ≡ q → bytes_of 4 c ≡ r → bytes_of 4 d ≡ s
    → bytes_of 4 (bit_xor (bit_xor (bit_xor (bit_xor a b) c) d) k) ≡ xor_b (xor_b (xor_b (xor_b p q) r) s) (bytes_of 4 k)
sums a b c d k p q r s e f g h =
    cc (bytes-xor (bit_xor (bit_xor (bit_xor a b) c) d) k, bytes-xor (bit_xor (bit_xor a b) c) d, bytes-xor (bit_xor a b) c, bytes-xor a b)

module _ (t : List ℕ) (h : Table t) where
  entry_at : (m i x : ℕ) → m < 1024 → m / 256 ≡ i → m % 256 ≡ x → bytes_of 4 (vec t m) ≡ spread i (sbox x)
  entry_at m i x l p q = h.entry m l ∙ ap₂ (λ (j y : ℕ). spread j (sbox y)) p q

  pub mixed-law : (a b c d k : ℕ) → a < 256 → b < 256 → c < 256 → d < 256
      → bytes_of 4 (bit_xor (bit_xor (bit_xor (bit_xor (vec t a) (vec t (b + 256))) (vec t (c + 512))) (vec t (d + 768))) k)
      ≡ xor_b (mix_column (sbox a) (sbox b) (sbox c) (sbox d)) (bytes_of 4 k)
  unfolding xor_b mix_column spread
  mixed-law a b c d k ha hb hc hd =
      let e0 : bytes_of 4 (vec t a) ≡ spread 0 (sbox a) = entry_at a 0 a (omega arith) (omega arith) (omega arith) in
      let e1 : bytes_of 4 (vec t (b + 256)) ≡ spread 1 (sbox b) = entry_at (b + 256) 1 b (omega arith) (omega arith) (omega arith) in
      let e2 : bytes_of 4 (vec t (c + 512)) ≡ spread 2 (sbox c) = entry_at (c + 512) 2 c (omega arith) (omega arith) (omega arith) in
      let e3 : bytes_of 4 (vec t (d + 768)) ≡ spread 3 (sbox d) = entry_at (d + 768) 3 d (omega arith) (omega arith) (omega arith) in
      sums (vec t a) (vec t (b + 256)) (vec t (c + 512)) (vec t (d + 768)) k (spread 0 (sbox a)) (spread 1 (sbox b)) (spread 2 (sbox c)) (spread 3 (sbox d)) e0 e1 e2 e3

  pub sub-law : (x : ℕ) → x < 256 → vec t x / 256 % 256 ≡ sbox x
  unfolding spread
  sub-law x hx = ap (λ (l : List ℕ). vec l 1) (sym (rows (vec t x)) ∙ entry_at x 0 x (omega arith) (omega arith) (omega arith))

-- ---- blocks

-- a column's four bytes, as the code takes them
abbrev bytes : ℕ → List ℕ
bytes w = w % 256 ∷ w / 256 % 256 ∷ w / 65536 % 256 ∷ w / 16777216 % 256 ∷ []

block-rows : (k : Cols) → block_of k ≡ bytes k.a ++ (bytes k.b ++ (bytes k.c ++ bytes k.d))
unfolding block_of
block-rows k = parts (rows k.a) (rows k.b) (rows k.c) (rows k.d)

-- x is a column of a round, of the columns a, b, c, d that ShiftRows brings together and of the round key's column y
abbrev Mixes : ℕ → ℕ → ℕ → ℕ → ℕ → ℕ → Type 0
Mixes x a b c d y = bytes_of 4 x ≡ xor_b (mix_column (sbox (a % 256)) (sbox (b / 256 % 256)) (sbox (c / 65536 % 256)) (sbox (d / 16777216 % 256))) (bytes_of 4 y)

-- the same of the last round
abbrev Moves : ℕ → ℕ → ℕ → ℕ → ℕ → ℕ → Type 0
Moves x a b c d y = bytes_of 4 x ≡ xor_b (sbox (a % 256) ∷ sbox (b / 256 % 256) ∷ sbox (c / 65536 % 256) ∷ sbox (d / 16777216 % 256) ∷ []) (bytes_of 4 y)

module _ (s k r : Cols) where
  pub add-law : bytes_of 4 r.a ≡ xor_b (bytes_of 4 s.a) (bytes_of 4 k.a)
      → bytes_of 4 r.b ≡ xor_b (bytes_of 4 s.b) (bytes_of 4 k.b)
      → bytes_of 4 r.c ≡ xor_b (bytes_of 4 s.c) (bytes_of 4 k.c)
      → bytes_of 4 r.d ≡ xor_b (bytes_of 4 s.d) (bytes_of 4 k.d)
      → block_of r ≡ xor_b (block_of s) (block_of k)
  unfolding block_of bytes_of xor_b
  add-law e f g h = parts e f g h

  pub round-law : Mixes r.a s.a s.b s.c s.d k.a → Mixes r.b s.b s.c s.d s.a k.b
      → Mixes r.c s.c s.d s.a s.b k.c
      → Mixes r.d s.d s.a s.b s.c k.d
      → block_of r ≡ xor_b (mix_columns (shift_rows (sub_bytes (block_of s)))) (block_of k)
  unfolding block_of bytes_of xor_b mix_column mix_columns shift_rows sub_bytes tab joined
  round-law e f g h = parts e f g h ∙ ap (λ (l : List ℕ). xor_b (mix_columns (shift_rows (sub_bytes l))) (block_of k)) (sym (block-rows s))

  pub last-law : Moves r.a s.a s.b s.c s.d k.a → Moves r.b s.b s.c s.d s.a k.b
      → Moves r.c s.c s.d s.a s.b k.c
      → Moves r.d s.d s.a s.b s.c k.d
      → block_of r ≡ xor_b (shift_rows (sub_bytes (block_of s))) (block_of k)
  unfolding block_of bytes_of xor_b shift_rows sub_bytes tab
  last-law e f g h = parts e f g h ∙ ap (λ (l : List ℕ). xor_b (shift_rows (sub_bytes l)) (block_of k)) (sym (block-rows s))

-- ---- the cipher, a round after the other

module _ (w x : List ℕ) where
  pub round-start : {k n : List ℕ} → n ≡ xor_b x k → k ≡ part 0 16 w → n ≡ rounds w x 0
  unfolding rounds add_round_key
  round-start e f = e ∙ ap (xor_b x) f

  pub round-more : (r : ℕ) {s k n : List ℕ} → n ≡ xor_b (mix_columns (shift_rows (sub_bytes s))) k → k ≡ part (16 * suc r) 16 w → s ≡ rounds w x r
      → n ≡ rounds w x (suc r)
  unfolding rounds add_round_key
  round-more r e f g = e ∙ ap₂ (λ (p q : List ℕ). xor_b (mix_columns (shift_rows (sub_bytes p))) q) g f

  pub round-end : {s k n : List ℕ} → n ≡ xor_b (shift_rows (sub_bytes s)) k → k ≡ part 160 16 w → s ≡ rounds w x 9 → n ≡ cipher w x
  unfolding cipher add_round_key
  round-end e f g = e ∙ ap₂ (λ (p q : List ℕ). xor_b (shift_rows (sub_bytes p)) q) g f
