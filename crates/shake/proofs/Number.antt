-- The number that bytes make, the low byte first: 8 by std, 4 and 8 of a text. Assumes nothing.
use Rattle.std.proofs.Common.{◌≡◌, sym, ap, ◌∙◌, ℕ, suc, ◌+◌, ◌*◌, ◌<◌, ◌≤◌, List, [], ◌∷◌, ◌++◌, length, arith}
use Rattle.std.specs.Int.{w64, from_le_bytes}
use Rattle.octets.specs.Lists.{vec, part}
use Rattle.octets.proofs.Part.{length_part}
use Rattle.octets.proofs.Slices.{part-cons, part-append, part-zero}
use Rattle.shake.specs.Held.{number}

pub number-le_bytes : (p : List ℕ) → length p ≡ 8 → from_le_bytes w64 p ≡ number p
unfolding number
number-le_bytes (a ∷ b ∷ c ∷ d ∷ e ∷ f ∷ g ∷ h ∷ []) q = omega arith
number-le_bytes (a ∷ b ∷ c ∷ d ∷ e ∷ f ∷ g ∷ h ∷ i ∷ p) q = absurd (omega arith)
number-le_bytes (a ∷ b ∷ c ∷ d ∷ e ∷ f ∷ g ∷ []) q = absurd (omega arith)
number-le_bytes (a ∷ b ∷ c ∷ d ∷ e ∷ f ∷ []) q = absurd (omega arith)
number-le_bytes (a ∷ b ∷ c ∷ d ∷ e ∷ []) q = absurd (omega arith)
number-le_bytes (a ∷ b ∷ c ∷ d ∷ []) q = absurd (omega arith)
number-le_bytes (a ∷ b ∷ c ∷ []) q = absurd (omega arith)
number-le_bytes (a ∷ b ∷ []) q = absurd (omega arith)
number-le_bytes (a ∷ []) q = absurd (omega arith)
number-le_bytes [] q = absurd (omega arith)

-- ---- of a text

-- one byte, and those after it
number-cons : (l : List ℕ) (o n : ℕ) → o < length l → number (part o (suc n) l) ≡ vec l o + 256 * number (part (o + 1) n l)
unfolding number
number-cons l o n h = ap number (part-cons o n l h)

number-none : (l : List ℕ) (o : ℕ) → number (part o 0 l) ≡ 0
unfolding number
number-none l o = ap number (part-zero o l)

module _ (l : List ℕ) (i : ℕ) where
  pub number-four : i + 4 ≤ length l
      → vec l i + vec l (i + 1) * 0x100 + vec l (i + 2) * 0x10000 + vec l (i + 3) * 0x1000000 ≡ number (part i 4 l)
  number-four h =
      let e0 = number-cons l i 3 (omega arith) in
      let e1 = number-cons l (i + 1) 2 (omega arith) in
      let e2 = ap (λ (k : ℕ). number (part k 2 l)) second ∙ number-cons l (i + 2) 1 (omega arith) in
      let e3 = ap (λ (k : ℕ). number (part k 1 l)) third ∙ number-cons l (i + 3) 0 (omega arith) in
      omega (arith, e0, e1, e2, e3, number-none l (i + 3 + 1))
    where
      second : i + 1 + 1 ≡ i + 2
      second = omega arith

      third : i + 2 + 1 ≡ i + 3
      third = omega arith

-- ---- two numbers laid end to end

number-four-more : (p q : List ℕ) → length p ≡ 4 → number (p ++ q) ≡ number p + number q * 0x100000000
unfolding number
number-four-more (a ∷ b ∷ c ∷ d ∷ []) q h = omega arith
number-four-more [] q h = absurd (omega arith)
number-four-more (a ∷ []) q h = absurd (omega arith)
number-four-more (a ∷ b ∷ []) q h = absurd (omega arith)
number-four-more (a ∷ b ∷ c ∷ []) q h = absurd (omega arith)
number-four-more (a ∷ b ∷ c ∷ d ∷ e ∷ p) q h = absurd (omega arith)

pub number-eight : (l : List ℕ) (i : ℕ) → i + 8 ≤ length l
    → number (part i 4 l) + number (part (i + 4) 4 l) * 0x100000000 ≡ number (part i 8 l)
number-eight l i h =
    sym (number-four-more (part i 4 l) (part (i + 4) 4 l) (length_part i 4 l (omega arith)))
    ∙ ap number (part-append i 4 4 l)
