-- A sum over the canonical basis, from its highest element down: before the turn of element j, r stands for all above it.
-- Assumes nothing.
use mathlib.Core.Path.{◌≡◌, sym, ap, ap₂, subst, ◌∙◌}
use Prim.Native.Nat.{ℕ, zero, suc, ◌-◌, ◌^◌, ◌<◌, ◌≤◌}
use native.Mathlib.Omega.{arith}
use lib.Bits.{bit_xor}
use lib.Dec.{T, eqb, eqb→eq}
use Rattle.octets.specs.Xor.{◌⊕◌}
use Rattle.octets.proofs.Xor.{⊕-zero-l, ⊕-byte, xor-is-⊕}
use Rattle.field.specs.Gf.{◌⊗◌, mul_in, shift_add, times_root}
use Rattle.field.specs.Vec.{sum}
use Rattle.field.proofs.Linear.{below, below_at}
use Rattle.field.proofs.Field.{K·ring, ⊗-one-l, ⊗-lt, times-root}

-- the sum over j < n of ξ^j g j
abbrev pub based : ℕ → (ℕ → ℕ) → ℕ
based n g = sum n (λ j. (2 ^ j) ⊗ g j)

power-test : T (below 7 (λ j. eqb ((2 ^ j) ⊗ 2) (2 ^ suc j)))
unfolding ◌⊗◌ mul_in shift_add times_root ◌⊕◌
power-test = tt

next_power : (j : ℕ) → j < 7 → (2 ^ j) ⊗ 2 ≡ 2 ^ suc j
next_power j h = eqb→eq ((2 ^ j) ⊗ 2) (2 ^ suc j) (below_at 7 (λ j. eqb ((2 ^ j) ⊗ 2) (2 ^ suc j)) power-test j h)

pub horner-start : (g : ℕ → ℕ) (r : ℕ) → r ≡ g 7 → based 7 g ⊕ ((2 ^ 7) ⊗ r) ≡ based 8 g
unfolding sum
horner-start g r e = ap (λ (x : ℕ). based 7 g ⊕ ((2 ^ 7) ⊗ x)) e

spread : (s w r x : ℕ) → s ⊕ (w ⊗ (2 ⊗ r ⊕ x)) ≡ (s ⊕ (w ⊗ x)) ⊕ ((w ⊗ 2) ⊗ r)
spread s w r x = simp K·ring

pub horner-turn : (g : ℕ → ℕ) (j r t x s : ℕ) → 0 < j → j ≤ 7 → t ≡ times_root 7 27 r → x ≡ g (j - 1) → based j g ⊕ ((2 ^ j) ⊗ r) ≡ s
    → based (j - 1) g ⊕ ((2 ^ (j - 1)) ⊗ bit_xor t x) ≡ s
unfolding sum
horner-turn g zero r t x s h h' q e p = absurd (omega arith)
horner-turn g (suc j) r t x s h h' q e p =
    ap (λ (i : ℕ). based i g ⊕ ((2 ^ i) ⊗ bit_xor t x)) less
    ∙ ap (λ (y : ℕ). based j g ⊕ ((2 ^ j) ⊗ y)) (xor-is-⊕ t x ∙ ap₂ ◌⊕◌ (q ∙ times-root r) (e ∙ ap g less))
    ∙ spread (based j g) (2 ^ j) r (g j)
    ∙ ap (λ (w : ℕ). (based j g ⊕ ((2 ^ j) ⊗ g j)) ⊕ (w ⊗ r)) (next_power j (omega arith))
    ∙ p
  where
    less : suc j - 1 ≡ j
    less = omega arith

-- r stays a byte
pub horner-byte : (r t x : ℕ) → t ≡ times_root 7 27 r → x < 256 → bit_xor t x < 256
horner-byte r t x q h = subst (λ (z : ℕ). z < 256) (sym (xor-is-⊕ t x)) (⊕-byte small h)
  where
    small : t < 256
    small = subst (λ (z : ℕ). z < 256) (sym (q ∙ times-root r)) (⊗-lt 2 r)

pub horner-end : (g : ℕ → ℕ) (j r s : ℕ) → j ≤ 0 → r < 256 → based j g ⊕ ((2 ^ j) ⊗ r) ≡ s → r ≡ s
unfolding sum
horner-end g zero r s h k p = sym (⊕-zero-l (1 ⊗ r) ∙ ⊗-one-l r k) ∙ p
horner-end g (suc j) r s h k p = absurd (omega arith)
