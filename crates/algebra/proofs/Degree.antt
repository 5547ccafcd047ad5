-- The result line has degree at most 1 exactly when the leading coefficients of the solution line solve the equation (document 001,
-- section 2.1.2): a polynomial of degree 2 over K has at most two roots. Assumes nothing.
use mathlib.Core.Path.{◌≡◌, sym, ap, ap₂, ◌∙◌}
use mathlib.Core.Logic.{◌↔◌}
use Prim.Native.Nat.{ℕ, ◌<◌}
use native.Mathlib.Omega.{arith}
use lib.Dec.{lit<}
use Rattle.octets.specs.Xor.{◌⊕◌}
use Rattle.octets.proofs.Xor.{⊕-eq, ⊕-self, ⊕-lt}
use Rattle.field.specs.Gf.{◌⊗◌}
use Rattle.field.proofs.Field.{K·ring, ⊗-lt}
use Rattle.field.proofs.Sum.{dot-lt}
use Rattle.field.proofs.Inverse.{no-divisor}
use Rattle.algebra.specs.Line.{line, IsLine, Equation, form, Solves, z0, z1, z_at, none, batch}
use Rattle.algebra.proofs.Equation.{equation-line, solved-line}

-- p X^2 + q X + s, at r
abbrev pub quadratic : ℕ → ℕ → ℕ → ℕ → ℕ
quadratic p q s r = (p ⊗ (r ⊗ r)) ⊕ (q ⊗ r) ⊕ s

three-identity : (p q s a b c : ℕ)
    → (a ⊕ b) ⊗ ((a ⊕ c) ⊗ ((b ⊕ c) ⊗ p))
    ≡ ((a ⊕ c) ⊗ (quadratic p q s a ⊕ quadratic p q s b)) ⊕ ((a ⊕ b) ⊗ (quadratic p q s a ⊕ quadratic p q s c))
three-identity p q s a b c = simp K·ring

all-zero : (a b : ℕ) → (a ⊗ (0 ⊕ 0)) ⊕ (b ⊗ (0 ⊕ 0)) ≡ 0
all-zero a b = simp K·ring

-- three different roots: the leading coefficient is 0
pub three-roots : (p q s a b c : ℕ) → p < 256 → a < 256 → b < 256 → c < 256 → (a ≡ b → ⊥) → (a ≡ c → ⊥) → (b ≡ c → ⊥)
    → quadratic p q s a ≡ 0 → quadratic p q s b ≡ 0 → quadratic p q s c ≡ 0 → p ≡ 0
three-roots p q s a b c hp ha hb hc ab ac bc ea eb ec =
    no-divisor (b ⊕ c) p (⊕-lt 8 hb hc) hp (apart b c bc)
    (no-divisor (a ⊕ c) ((b ⊕ c) ⊗ p) (⊕-lt 8 ha hc) (⊗-lt _ _) (apart a c ac)
    (no-divisor (a ⊕ b) ((a ⊕ c) ⊗ ((b ⊕ c) ⊗ p)) (⊕-lt 8 ha hb) (⊗-lt _ _) (apart a b ab)
    (three-identity p q s a b c
    ∙ ap₂ (λ (x y : ℕ). ((a ⊕ c) ⊗ x) ⊕ ((a ⊕ b) ⊗ y)) (ap₂ ◌⊕◌ ea eb) (ap₂ ◌⊕◌ ea ec)
    ∙ all-zero (a ⊕ c) (a ⊕ b))))
  where
    apart : (a b : ℕ) → (a ≡ b → ⊥) → a ⊕ b ≡ 0 → ⊥
    apart a b ne e = ne (⊕-eq a b e)

-- ---- one equation

regroup : (p z1 z0 u1 u0 a c r : ℕ)
    → quadratic p (z1 ⊕ u1 ⊕ a) (z0 ⊕ u0 ⊕ c) r ≡ line u1 u0 r ⊕ ((p ⊗ (r ⊗ r)) ⊕ line z1 z0 r) ⊕ line a c r
regroup p z1 z0 u1 u0 a c r = simp K·ring

join : (u1 u0 z1 z0 r : ℕ) → line u1 u0 r ⊕ line z1 z0 r ≡ line (u1 ⊕ z1) (u0 ⊕ z0) r
join u1 u0 z1 z0 r = simp K·ring

module _ (n : ℕ) (e : Equation) (x x0 : ℕ → ℕ) (hy : e.y < 256) where
  -- the result line, with the mask line u1 X + u0
  pub result-degree : (u1 u0 : ℕ) → IsLine (λ r. line u1 u0 r ⊕ z_at n e (λ k. line (x k) (x0 k) r) r) ↔ Solves n e x
  result-degree u1 u0 = (
    λ h.
        ⊕-eq (form n e x) e.y
        (three-roots (form n e x ⊕ e.y) (z1 n e x x0 ⊕ u1 ⊕ h.leading) (z0 n e x0 ⊕ u0 ⊕ h.constant) 0 1 2
        (⊕-lt 8 (⊕-lt 8 (dot-lt n _ _) (dot-lt n _ _)) hy) (lit< tt) (lit< tt) (lit< tt) (λ q. omega arith) (λ q. omega arith) (λ q. omega arith)
        (root h 0 (lit< tt)) (root h 1 (lit< tt)) (root h 2 (lit< tt))),
    λ h.
        record {
          leading = u1 ⊕ z1 n e x x0;
          constant = u0 ⊕ z0 n e x0;
          agrees = λ r hr. ap (λ (z : ℕ). line u1 u0 r ⊕ z) (solved-line n e x x0 h r) ∙ join u1 u0 (z1 n e x x0) (z0 n e x0) r;
        },
  )
    where
      root : (h : IsLine (λ r. line u1 u0 r ⊕ z_at n e (λ k. line (x k) (x0 k) r) r))
          → (r : ℕ) → r < 256 → quadratic (form n e x ⊕ e.y) (z1 n e x x0 ⊕ u1 ⊕ h.leading) (z0 n e x0 ⊕ u0 ⊕ h.constant) r ≡ 0
      root h r hr =
          regroup (form n e x ⊕ e.y) (z1 n e x x0) (z0 n e x0) u1 u0 h.leading h.constant r
          ∙ ap (λ (z : ℕ). line u1 u0 r ⊕ z ⊕ line h.leading h.constant r) (sym (equation-line n e x x0 r))
          ∙ ap (◌⊕ line h.leading h.constant r) (h.agrees r hr) ∙ ⊕-self (line h.leading h.constant r)

  -- the equation's own line is the one that ComputePz works out
  pub equation-degree : ((r : ℕ) → r < 256 → z_at n e (λ k. line (x k) (x0 k) r) r ≡ line (z1 n e x x0) (z0 n e x0) r) ↔ Solves n e x
  equation-degree = (
    λ h.
        (result-degree 0 0).0
        (record {
          leading = z1 n e x x0;
          constant = z0 n e x0;
          agrees = λ r hr. ap (λ (z : ℕ). line 0 0 r ⊕ z) (h r hr) ∙ no-mask (z1 n e x x0) (z0 n e x0) r;
        }),
    λ h r hr. solved-line n e x x0 h r,
  )
    where
      no-mask : (a c r : ℕ) → line 0 0 r ⊕ line a c r ≡ line a c r
      no-mask a c r = simp K·ring

-- ---- the m equations of a set with no batching

pub system-degree : (n m : ℕ) (e : ℕ → Equation) (x x0 u1 u0 : ℕ → ℕ) → ((q : ℕ) → q < m → (e q).y < 256)
    → ((j : ℕ) → j < m → IsLine (λ r. line (u1 j) (u0 j) r ⊕ batch m none (λ q. z_at n (e q) (λ k. line (x k) (x0 k) r) r) j))
    ↔ ((q : ℕ) → q < m → Solves n (e q) x)
unfolding batch
system-degree n m e x x0 u1 u0 hy = (
  λ h q hq. (result-degree n (e q) x x0 (hy q hq) (u1 q) (u0 q)).0 (h q hq),
  λ h q hq. (result-degree n (e q) x x0 (hy q hq) (u1 q) (u0 q)).1 (h q hq),
)
