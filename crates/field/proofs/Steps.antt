-- One step of the product as the code takes it, against one step of `shift_add`.
-- Assumes nothing.
use mathlib.Core.Path.{◌≡◌, sym, ap, ap₂, ◌∙◌}
use Prim.Native.Nat.{ℕ, zero, suc, ◌+◌, ◌-◌, ◌*◌, ◌/◌, ◌%◌, ◌<◌, ◌≤◌}
use native.Mathlib.Nat.{mod-lt, zero-lt-suc, zero-mul, one-mul, mod-eq_of_lt}
use native.Mathlib.Omega.{arith}
use lib.Bits.{bit_xor, bit_and, and_mask, and_zero_r}
use lib.Dec.{lit<}
use Rattle.field.proofs.Product.{root-lt}
use Rattle.octets.specs.Xor.{◌⊕◌}
use Rattle.field.specs.Gf.{times_root, shift_add, mul_in, ◌⊗◌}
use Rattle.octets.proofs.Xor.{⊕-assoc, ⊕-zero-l, ⊕-zero-r}

-- the mask of a digit: all ones, or none
mask-digit : (x y : ℕ) → x < 256 → bit_and x (bit_and y 1 * 255) ≡ y % 2 * x
mask-digit x y hx = ap (λ (m : ℕ). bit_and x (m * 255)) (and_mask y 1) ∙ go (y % 2) (mod-lt y (zero-lt-suc 1))
  where
    go : (m : ℕ) → m < 2 → bit_and x (m * 255) ≡ m * x
    go zero h = and_zero_r x ∙ sym (zero-mul x)
    go (suc zero) h = and_mask x 8 ∙ mod-eq_of_lt hx ∙ sym (one-mul x)
    go (suc (suc m)) h = absurd (omega arith)

pub mask_lt : (y : ℕ) → bit_and y 1 * 255 < 256
mask_lt y = omega (arith, and_mask y 1, mod-lt y (zero-lt-suc 1))

pub root-shift : (x : ℕ) → x < 256 → bit_xor (x * 2 % 256) (x / 128 * 27) ≡ times_root 7 27 x
unfolding times_root ◌⊕◌
root-shift x hx = ap₂ bit_xor shifted top
  where
    shifted : x * 2 % 256 ≡ x % 128 * 2
    shifted = omega arith

    top : x / 128 * 27 ≡ x / 128 % 2 * 27
    top = omega arith

-- what is left of the sum after a step
pub mul-turn : (i r x y g r' x' : ℕ) → i < 8 → r ⊕ shift_add 7 27 (8 - i) x y ≡ g → r' ≡ r ⊕ (y % 2 * x) → x' ≡ times_root 7 27 x
    → r' ⊕ shift_add 7 27 (8 - (i + 1)) x' (y / 2) ≡ g
unfolding shift_add
mul-turn i r x y g r' x' hi e er ex =
    ap₂ (λ (p q : ℕ). p ⊕ shift_add 7 27 (8 - (i + 1)) q (y / 2)) er ex
    ∙ ⊕-assoc r (y % 2 * x) (shift_add 7 27 (8 - (i + 1)) (times_root 7 27 x) (y / 2))
    ∙ ap (λ (n : ℕ). r ⊕ shift_add 7 27 n x y) (sym more) ∙ e
  where
    more : 8 - i ≡ suc (8 - (i + 1))
    more = omega arith

-- `r` after a step
pub mask-turn : (r x y : ℕ) → x < 256 → bit_xor r (bit_and x (bit_and y 1 * 255)) ≡ r ⊕ (y % 2 * x)
unfolding ◌⊕◌
mask-turn r x y hx = ap (bit_xor r) (mask-digit x y hx)

pub root-shift-lt : (x : ℕ) → x < 256 → bit_xor (x * 2 % 256) (x / 128 * 27) < 256
root-shift-lt x hx = rw (root-shift x hx) (root-lt 7 27 (lit< tt) x)

-- before the first step, and after the last
pub mul-start : (a b : ℕ) → a < 256 → 0 ⊕ shift_add 7 27 8 a b ≡ a ⊗ b
unfolding ◌⊗◌ mul_in
mul-start a b h = ⊕-zero-l (shift_add 7 27 8 a b) ∙ ap (λ (x : ℕ). shift_add 7 27 8 x b) (sym (mod-eq_of_lt h))

pub mul-end : (i r x y g : ℕ) → i ≤ 8 → 8 ≤ i → r ⊕ shift_add 7 27 (8 - i) x y ≡ g → r ≡ g
unfolding shift_add
mul-end i r x y g h h' e = sym (⊕-zero-r r) ∙ ap (λ (n : ℕ). r ⊕ shift_add 7 27 n x y) none ∙ e
  where
    none : 0 ≡ 8 - i
    none = omega arith
