-- A column's bytes, and what a substituted byte adds to a mixed column. Assumes nothing.
use mathlib.Core.Path.{◌≡◌, refl, ap, ap₂, ◌∙◌, sym}
use mathlib.Core.List.{List, [], ◌∷◌}
use Prim.Native.Nat.{ℕ, zero, suc, ◌+◌, ◌*◌, ◌/◌, ◌%◌, ◌^◌, ◌<◌}
use native.Mathlib.Omega.{arith}
use lib.Dec.{T, eqb, eqb→eq}
use lib.Bits.{bit_xor}
use lib.ListN.{get_or}
use Rattle.std.proofs.lemmas.Nat.{xor_of_8}
use Rattle.std.specs.Int.{w32, from_le_bytes, to_le_bytes}
use Rattle.octets.specs.Lists.{bytes_of}
use Rattle.octets.specs.Xor.{◌⊕◌, xor_b}
use Rattle.field.specs.Gf.{◌⊗◌, mul_in, shift_add, times_root}
use Rattle.field.proofs.Linear.{below, below_at, additive-agree}
use Rattle.field.proofs.Product.{root-⊕}
use Rattle.field.proofs.Field.{⊗-⊕-l, ⊗-⊕-r, ⊗-one-l}
use Rattle.aes.specs.Words.{spread}
use Rattle.octets.proofs.Laid.{bytes_of-⊕}

-- equal element by element
pub four : {a b c d a' b' c' d' : ℕ} → a ≡ a' → b ≡ b' → c ≡ c' → d ≡ d' → a ∷ b ∷ c ∷ d ∷ [] ≡ a' ∷ b' ∷ c' ∷ d' ∷ []
four p q r s = cc

-- the four bytes, as the code takes them
pub rows : (w : ℕ) → bytes_of 4 w ≡ w % 256 ∷ w / 256 % 256 ∷ w / 65536 % 256 ∷ w / 16777216 % 256 ∷ []
unfolding bytes_of
rows w = four refl refl (omega arith) (omega arith)

pub word_bytes : (a b c d : ℕ) → a < 256 → b < 256 → c < 256 → d < 256
    → bytes_of 4 (a + b * 256 + c * 65536 + d * 16777216) ≡ a ∷ b ∷ c ∷ d ∷ []
word_bytes a b c d ha hb hc hd = rows (a + b * 256 + c * 65536 + d * 16777216) ∙ four (omega arith) (omega arith) (omega arith) (omega arith)

-- the column that std makes of four bytes
pub bytes-column : (a b c d : ℕ) → a < 256 → b < 256 → c < 256 → d < 256
    → bytes_of 4 (from_le_bytes w32 (a ∷ b ∷ c ∷ d ∷ [])) ≡ a ∷ b ∷ c ∷ d ∷ []
bytes-column a b c d ha hb hc hd = word_bytes a b c d ha hb hc hd

-- the same of a column w that the code made of the bytes l
pub made-column : {w a b c d : ℕ} {l : List ℕ} → w ≡ from_le_bytes w32 l → l ≡ a ∷ b ∷ c ∷ d ∷ [] → a < 256 → b < 256 → c < 256 → d < 256
    → bytes_of 4 w ≡ a ∷ b ∷ c ∷ d ∷ []
made-column {a} {b} {c} {d} e f ha hb hc hd =
    ap (bytes_of 4) (e ∙ ap (from_le_bytes w32) f) ∙ bytes-column a b c d ha hb hc hd

-- the four bytes that std makes of a column
pub column-bytes : (w : ℕ) → to_le_bytes w32 w ≡ bytes_of 4 w
column-bytes w = four (omega arith) refl refl refl ∙ sym (rows w)

-- the bytes of a sum
pub bytes-xor : (a b : ℕ) → bytes_of 4 (bit_xor a b) ≡ xor_b (bytes_of 4 a) (bytes_of 4 b)
unfolding ◌⊕◌
bytes-xor a b = bytes_of-⊕ 4 a b

-- ---- the products of MixColumns

two-test : T (below 8 (λ i. eqb (2 ⊗ 2 ^ i) (times_root 7 0x1b (2 ^ i))))
unfolding ◌⊗◌ mul_in shift_add times_root ◌⊕◌
two-test = tt

pub times-two : (b : ℕ) → b < 256 → 2 ⊗ b ≡ times_root 7 0x1b b
times-two b h =
    additive-agree (2 ⊗◌) (times_root 7 0x1b) (⊗-⊕-r 2) (root-⊕ 7 0x1b) 8
    (λ i hi. eqb→eq (2 ⊗ 2 ^ i) (times_root 7 0x1b (2 ^ i)) (below_at 8 (λ j. eqb (2 ⊗ 2 ^ j) (times_root 7 0x1b (2 ^ j))) two-test i hi)) b h

one-and-two : 3 ≡ 1 ⊕ 2
unfolding ◌⊕◌
one-and-two = refl

pub times-three : (b : ℕ) → b < 256 → 3 ⊗ b ≡ b ⊕ times_root 7 0x1b b
times-three b h = ap (◌⊗ b) one-and-two ∙ ⊗-⊕-l 1 2 b ∙ ap₂ ◌⊕◌ (⊗-one-l b h) (times-two b h)

-- the four columns that a substituted byte s gives, made of s and ξ times s
module _ (s d : ℕ) (hs : s < 256) (hd : d ≡ times_root 7 0x1b s) where
  two : d ≡ 2 ⊗ s
  two = hd ∙ sym (times-two s hs)

  three : bit_xor s d ≡ 3 ⊗ s
  three = unfold ◌⊕◌ in ap (bit_xor s) hd ∙ sym (times-three s hs)

  -- row i of the code's four
  abbrev row : ℕ → List ℕ
  row i = get_or ((d ∷ s ∷ s ∷ bit_xor s d ∷ []) ∷ (bit_xor s d ∷ d ∷ s ∷ s ∷ []) ∷ (s ∷ bit_xor s d ∷ d ∷ s ∷ []) ∷ (s ∷ s ∷ bit_xor s d ∷ d ∷ []) ∷ []) i []

  pub row-spread : (i : ℕ) → i < 4 → row i ≡ spread i s
  unfolding spread
  row-spread zero h = four two refl refl three
  row-spread (suc zero) h = four three two refl refl
  row-spread (suc (suc zero)) h = four refl three two refl
  row-spread (suc (suc (suc zero))) h = four refl refl three two
  row-spread (suc (suc (suc (suc i)))) h = absurd (omega arith)

  -- a row is four bytes
  pub row-column : (i : ℕ) {w : ℕ} → i < 4 → d < 256 → w ≡ from_le_bytes w32 (row i) → bytes_of 4 w ≡ row i
  row-column zero h hd f = made-column f refl hd hs hs (xor_of_8 s d hs hd)
  row-column (suc zero) h hd f = made-column f refl (xor_of_8 s d hs hd) hd hs hs
  row-column (suc (suc zero)) h hd f = made-column f refl hs (xor_of_8 s d hs hd) hd hs
  row-column (suc (suc (suc zero))) h hd f = made-column f refl hs hs (xor_of_8 s d hs hd) hd
  row-column (suc (suc (suc (suc i)))) h hd f = absurd (omega arith)

  -- the column of row n, for i that is n
  pub row-made : (i n : ℕ) {w : ℕ} → i ≡ n → n < 4 → d < 256 → w ≡ from_le_bytes w32 (row n) → bytes_of 4 w ≡ spread i s
  row-made i n e h hd f = row-column n h hd f ∙ row-spread n h ∙ ap (λ k. spread k s) (sym e)
