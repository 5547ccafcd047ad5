-- The sibling of node 2k is node 2k+1, and the other way round; which half a leaf is in. Assumes nothing.
use mathlib.Core.Path.{◌≡◌, sym, ap, ◌∙◌}
use mathlib.Core.Logic.{⊎_elim, ◌⊎◌, inl, inr}
use Prim.Native.Nat.{ℕ, suc, ◌+◌, ◌-◌, ◌*◌, ◌/◌, ◌%◌, ◌^◌, ◌<◌, ◌≤◌}
use native.Mathlib.Nat.{pow-suc, eq-zero-or-pos}
use native.Mathlib.Omega.{arith}
use lib.Dec.{lit<}
use lib.Pow.{high}
use lib.Bits.{bit_xor, xor_block, xor_zero_r}
use Rattle.octets.specs.Xor.{◌⊕◌}
use Rattle.octets.proofs.Xor.{⊕-assoc, ⊕-self, ⊕-zero-r}
use Rattle.tree.proofs.Powers.{pow-twice, pow-next}

pub sibling-even : (k : ℕ) → (2 * k) ⊕ 1 ≡ 2 * k + 1
unfolding ◌⊕◌
sibling-even k =
    ap (λ (x : ℕ). bit_xor x 1) even
    ∙ xor_block 1 k 0 0 1 (lit< tt) (lit< tt)
    ∙ ap (λ (x : ℕ). x * 2 + 1) (xor_zero_r k)
    ∙ twice
  where
    even : 2 * k ≡ k * 2 + 0
    even = omega arith

    twice : k * 2 + 1 ≡ 2 * k + 1
    twice = omega arith

pub sibling-odd : (k : ℕ) → (2 * k + 1) ⊕ 1 ≡ 2 * k
sibling-odd k =
    ap (λ (x : ℕ). x ⊕ 1) (sym (sibling-even k)) ∙ ⊕-assoc (2 * k) 1 1 ∙ ap (λ (x : ℕ). (2 * k) ⊕ x) (⊕-self 1) ∙ ⊕-zero-r (2 * k)

-- leaf i of the 2 ^ (d + 1) below node k, seen from the child that it is below
pub leaf-left : (k d i : ℕ) → k * 2 ^ suc d + i ≡ 2 * k * 2 ^ d + i
leaf-left k d i = ap (λ (x : ℕ). x + i) (pow-twice k d)

pub leaf-right : (k d i : ℕ) → 2 ^ d ≤ i → k * 2 ^ suc d + i ≡ (2 * k + 1) * 2 ^ d + (i - 2 ^ d)
leaf-right k d i h = omega (arith, pow-twice k d, pow-next k d)

pub above-left : (k d i : ℕ) → i < 2 ^ d → (k * 2 ^ suc d + i) / 2 ^ d ≡ 2 * k
above-left k d i h = ap (λ (x : ℕ). x / 2 ^ d) (leaf-left k d i) ∙ high (2 * k) d h

pub above-right : (k d i : ℕ) → i < 2 ^ suc d → 2 ^ d ≤ i → (k * 2 ^ suc d + i) / 2 ^ d ≡ 2 * k + 1
above-right k d i lt h = ap (λ (x : ℕ). x / 2 ^ d) (leaf-right k d i h) ∙ high (2 * k + 1) d (omega (arith, pow-suc 2 d))

-- where the sibling of any node is

module _ (i : ℕ) where
  even-or-odd : (i ≡ 2 * (i / 2)) ⊎ (i ≡ 2 * (i / 2) + 1)
  even-or-odd = ⊎_elim (λ (e : i % 2 ≡ 0). inl (omega arith)) (λ (e : 0 < i % 2). inr (omega arith)) (eq-zero-or-pos (i % 2))

  pub sibling-low : 2 * (i / 2) ≤ i ⊕ 1
  sibling-low =
      ⊎_elim
      (λ (e : i ≡ 2 * (i / 2)). omega (arith, sibling-even (i / 2), ap (λ (x : ℕ). x ⊕ 1) e))
      (λ (e : i ≡ 2 * (i / 2) + 1). omega (arith, sibling-odd (i / 2), ap (λ (x : ℕ). x ⊕ 1) e))
      even-or-odd

  pub sibling-high : i ⊕ 1 ≤ i + 1
  sibling-high =
      ⊎_elim
      (λ (e : i ≡ 2 * (i / 2)). omega (arith, sibling-even (i / 2), ap (λ (x : ℕ). x ⊕ 1) e))
      (λ (e : i ≡ 2 * (i / 2) + 1). omega (arith, sibling-odd (i / 2), ap (λ (x : ℕ). x ⊕ 1) e))
      even-or-odd

  pub sibling-apart : i ⊕ 1 ≡ i → ⊥
  sibling-apart q =
      ⊎_elim
      (λ (e : i ≡ 2 * (i / 2)). omega (arith, sibling-even (i / 2), ap (λ (x : ℕ). x ⊕ 1) e))
      (λ (e : i ≡ 2 * (i / 2) + 1). omega (arith, sibling-odd (i / 2), ap (λ (x : ℕ). x ⊕ 1) e))
      even-or-odd
