-- The committed lines (document 001, section 2.1.3): what the leaves make of their shares, and why the hidden leaf is not missed.
-- Assumes nothing.
use mathlib.Core.Path.{◌≡◌, sym, ap, ◌∙◌, fun_ext}
use Prim.Native.Nat.{ℕ}
use Rattle.octets.specs.Xor.{◌⊕◌}
use Rattle.octets.proofs.Xor.{⊕-self, ⊕-zero-l}
use Rattle.field.specs.Gf.{◌⊗◌}
use Rattle.field.specs.Vec.{sum, skip}
use Rattle.field.proofs.Field.{K·ring, ⊗-comm, ⊗-zero-r}
use Rattle.field.proofs.Sum.{sum-⊕, sum-⊗-r, skip-factor, skip-cases, skip-same, skip-other}
use Rattle.algebra.specs.Line.{line, constant_of, correction_of, value_of}

-- ---- leaves

-- leaf k adds its share times X - ω_k: so the leading coefficient is the sum of the shares, and the constant term that of ω times share
pub leaves-line : (N : ℕ) (w s : ℕ → ℕ) (r : ℕ) → sum N (λ k. (r ⊕ w k) ⊗ s k) ≡ line (sum N s) (constant_of N w s) r
leaves-line N w s r =
    sym (ap (λ (x : ℕ). x ⊕ constant_of N w s) (sym (sum-⊗-r N r s)) ∙ sym (sum-⊕ N (λ k. s k ⊗ r) (λ k. w k ⊗ s k)) ∙ simp K·ring)

line-split : (d a c r : ℕ) → line (d ⊕ a) c r ≡ (d ⊗ r) ⊕ line a c r
line-split d a c r = simp K·ring

correction-cancel : (x a : ℕ) → x ⊕ a ⊕ a ≡ x
correction-cancel x a = simp K·ring

-- with the correction the shares add up to x
pub correction-sum : (N : ℕ) (s : ℕ → ℕ) (x : ℕ) → correction_of N s x ⊕ sum N s ≡ x
correction-sum N s x = correction-cancel x (sum N s)

-- and the leading coefficient is x (equation 5)
pub leaves-corrected : (N : ℕ) (w s : ℕ → ℕ) (x r : ℕ)
    → (correction_of N s x ⊗ r) ⊕ sum N (λ k. (r ⊕ w k) ⊗ s k) ≡ line x (constant_of N w s) r
leaves-corrected N w s x r =
    ap (λ (z : ℕ). (correction_of N s x ⊗ r) ⊕ z) (leaves-line N w s r)
    ∙ sym (line-split (correction_of N s x) (sum N s) (constant_of N w s) r)
    ∙ ap (λ (a : ℕ). line a (constant_of N w s) r) (correction-sum N s x)

-- ---- opening, at the point of the hidden leaf i

-- its term is 0 there
pub hidden-term : (w s : ℕ → ℕ) (i : ℕ) → (w i ⊕ w i) ⊗ s i ≡ 0
hidden-term w s i = simp K·ring

-- so its share is of no matter
hidden : (N : ℕ) (w s : ℕ → ℕ) (i : ℕ) → line (sum N (skip i s)) (constant_of N w (skip i s)) (w i) ≡ line (sum N s) (constant_of N w s) (w i)
hidden N w s i =
    sym (leaves-line N w (skip i s) (w i)) ∙ ap (sum N) (fun_ext (skip-factor (λ k. w i ⊕ w k) s i (⊕-self (w i)))) ∙ leaves-line N w s (w i)

-- with no correction: v_u
pub value-plain : (N : ℕ) (w s : ℕ → ℕ) (i : ℕ) → value_of N w (skip i s) 0 (w i) ≡ line (sum N s) (constant_of N w s) (w i)
value-plain N w s i = ap (λ (a : ℕ). line a (constant_of N w (skip i s)) (w i)) (⊕-zero-l (sum N (skip i s))) ∙ hidden N w s i

-- with the correction: v_x
pub value-corrected : (N : ℕ) (w s : ℕ → ℕ) (i x : ℕ) → value_of N w (skip i s) (correction_of N s x) (w i) ≡ line x (constant_of N w s) (w i)
value-corrected N w s i x =
    line-split (correction_of N s x) (sum N (skip i s)) (constant_of N w (skip i s)) (w i)
    ∙ ap (λ (z : ℕ). (correction_of N s x ⊗ w i) ⊕ z) (hidden N w s i) ∙ simp K·ring

-- as algorithm 12 writes it, lines 14 and 15: the sum over the leaves but i of the share times r - ω_k
pub value-spread : (N : ℕ) (w s : ℕ → ℕ) (i d : ℕ) → (d ⊗ w i) ⊕ sum N (skip i (λ k. s k ⊗ (w i ⊕ w k))) ≡ value_of N w (skip i s) d (w i)
value-spread N w s i d =
    ap (λ (z : ℕ). (d ⊗ w i) ⊕ z) (ap (sum N) (fun_ext inside) ∙ leaves-line N w (skip i s) (w i))
    ∙ sym (line-split d (sum N (skip i s)) (constant_of N w (skip i s)) (w i))
  where
    inside : (k : ℕ) → skip i (λ k. s k ⊗ (w i ⊕ w k)) k ≡ (w i ⊕ w k) ⊗ skip i s k
    inside k =
        skip-cases (λ k. skip i (λ k. s k ⊗ (w i ⊕ w k)) k ≡ (w i ⊕ w k) ⊗ skip i s k) i k
        (simp (skip-same, ⊗-zero-r)) (λ ne. simp (skip-other, ne, ⊗-comm))
