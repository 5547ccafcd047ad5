-- One repetition: what the checker works out at the hidden leaf's point is the signer's line there, and so is the constant term that it
-- gets (document 001, sections 2.1.2 and 2.5.1). Assumes nothing.
use mathlib.Core.Path.{◌≡◌, refl, ap, ap₂, ◌∙◌}
use Prim.Native.Nat.{ℕ, ◌<◌}
use Rattle.octets.specs.Xor.{◌⊕◌}
use Rattle.octets.specs.Lists.{tab}
use Rattle.octets.proofs.Tab.{tab-ext}
use Rattle.field.specs.Gf.{◌⊗◌}
use Rattle.field.proofs.Field.{K·ring}
use Rattle.field.proofs.Sum.{sum-ext, skip-ext}
use Rattle.algebra.specs.Line.{line, value_of, Solves, z0, z1, Batch, batch, IsRow, Setting, Shares, x0, delta, u0, u1, alpha0, vx, vu, checked0, Opens}
use Rattle.algebra.proofs.Opening.{value-plain, value-corrected}
use Rattle.algebra.proofs.Equation.{solved-line, z_at-ext}
use Rattle.algebra.proofs.Batch.{batch-line, batch-ext}

result-scalar : (u1 u0 z1 z0 r : ℕ) → line u1 u0 r ⊕ line z1 z0 r ⊕ ((u1 ⊕ z1) ⊗ r) ≡ u0 ⊕ z0
result-scalar u1 u0 z1 z0 r = simp K·ring

-- what the checker works out from the result line's leading coefficient is its constant term
pub result-line : (m : ℕ) (B : Batch) (u1 u0 z1 z0 : ℕ → ℕ) (r j : ℕ)
    → line (u1 j) (u0 j) r ⊕ batch m B (λ q. line (z1 q) (z0 q) r) j ⊕ ((u1 j ⊕ batch m B z1 j) ⊗ r) ≡ u0 j ⊕ batch m B z0 j
result-line m B u1 u0 z1 z0 r j =
    ap (λ (z : ℕ). line (u1 j) (u0 j) r ⊕ z ⊕ ((u1 j ⊕ batch m B z1 j) ⊗ r)) (batch-line m B z1 z0 r j)
    ∙ result-scalar (u1 j) (u0 j) (batch m B z1 j) (batch m B z0 j) r

value_of-ext : (N : ℕ) (w f g : ℕ → ℕ) (d d' r : ℕ) → ((k : ℕ) → k < N → f k ≡ g k) → d ≡ d' → value_of N w f d r ≡ value_of N w g d' r
value_of-ext N w f g d d' r h q =
    ap₂ (λ (a c : ℕ). line a c r) (ap₂ ◌⊕◌ q (sum-ext N f g h)) (sum-ext N _ _ (λ k hk. ap (w k ⊗◌) (h k hk)))

module _ (c : Setting) (h : Shares) (s : ℕ) (X U : ℕ → ℕ → ℕ) (d a1 : ℕ → ℕ) (o : Opens c h s X U d a1) where
  -- v_x is the solution line's value
  pub vx-is : (i : ℕ) → i < c.n → vx c s X d i ≡ line (h.x i) (x0 c h i) (c.w s)
  vx-is i hi =
      value_of-ext c.N c.w _ _ (d i) (delta c h i) (c.w s)
      (skip-ext c.N s (λ k. X k i) (λ k. h.X k i) (λ k hk ne. o.X-same k i hk ne hi)) (o.d-same i hi)
      ∙ value-corrected c.N c.w (λ k. h.X k i) s (h.x i)

  -- v_u is the mask line's
  pub vu-is : (j : ℕ) → IsRow c.m c.B j → vu c s U j ≡ line (u1 c h j) (u0 c h j) (c.w s)
  vu-is j row =
      value_of-ext c.N c.w _ _ 0 0 (c.w s)
      (skip-ext c.N s (λ k. U k j) (λ k. h.U k j) (λ k hk ne. o.U-same k j hk ne row)) refl
      ∙ value-plain c.N c.w (λ k. h.U k j) s

  -- where x solves the equations, the checker gets the signer's constant terms
  pub complete : ((q : ℕ) → q < c.m → Solves c.n (c.eqs q) h.x) → (j : ℕ) → IsRow c.m c.B j → checked0 c s X U d a1 j ≡ alpha0 c h j
  complete solves j row =
      ap₂ ◌⊕◌
      (ap₂ ◌⊕◌ (vu-is j row)
      (batch-ext c.m c.B _ _
      (λ q hq.
      z_at-ext c.n (c.eqs q) (vx c s X d) (λ k. line (h.x k) (x0 c h k) (c.w s)) vx-is (c.w s)
      ∙ solved-line c.n (c.eqs q) h.x (x0 c h) (solves q hq) (c.w s))
      j row))
      (ap (◌⊗ c.w s) (o.a1-same j row))
      ∙ result-line c.m c.B (u1 c h) (u0 c h) (λ q. z1 c.n (c.eqs q) h.x (x0 c h)) (λ q. z0 c.n (c.eqs q) (x0 c h)) (c.w s) j

  -- the same as lists of k bytes
  pub complete-tab : ((q : ℕ) → q < c.m → Solves c.n (c.eqs q) h.x) → (k : ℕ) → ((j : ℕ) → j < k → IsRow c.m c.B j)
      → tab k (checked0 c s X U d a1) ≡ tab k (alpha0 c h)
  complete-tab solves k row = tab-ext k _ _ (λ j hj. complete solves j (row j hj))
