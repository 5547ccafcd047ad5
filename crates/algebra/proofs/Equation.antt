-- The solution line put into a packed equation (document 001, section 2.1.2): its three coefficients. Assumes nothing.
use mathlib.Core.Path.{◌≡◌, ap, ap₂, ◌∙◌, fun_ext}
use Prim.Native.Nat.{ℕ, zero, suc, ◌<◌}
use native.Mathlib.Omega.{arith}
use Rattle.octets.specs.Xor.{◌⊕◌}
use Rattle.field.specs.Gf.{◌⊗◌}
use Rattle.field.specs.Vec.{sum, dot, mat}
use Rattle.field.proofs.Field.{K·ring, ⊗-⊕-l}
use Rattle.field.proofs.Sum.{sum-ext, sum-⊕}
use Rattle.algebra.specs.Line.{line, Equation, form, Solves, z0, z1, z_at}

-- ---- vectors of lines

-- one more term on each side of `dot-lines`
dot-lines-step : (a b c d t1 t0 x1 x0 r : ℕ)
    → (a ⊗ (r ⊗ r)) ⊕ ((b ⊕ c) ⊗ r) ⊕ d ⊕ (line t1 t0 r ⊗ line x1 x0 r)
    ≡ ((a ⊕ (t1 ⊗ x1)) ⊗ (r ⊗ r)) ⊕ (((b ⊕ (t0 ⊗ x1)) ⊕ (c ⊕ (t1 ⊗ x0))) ⊗ r) ⊕ (d ⊕ (t0 ⊗ x0))
dot-lines-step a b c d t1 t0 x1 x0 r = simp K·ring

-- two vectors of lines, multiplied: the three coefficients
pub dot-lines : (n : ℕ) (t1 t0 x1 x0 : ℕ → ℕ) (r : ℕ)
    → dot n (λ j. line (t1 j) (t0 j) r) (λ j. line (x1 j) (x0 j) r)
    ≡ (dot n t1 x1 ⊗ (r ⊗ r)) ⊕ ((dot n t0 x1 ⊕ dot n t1 x0) ⊗ r) ⊕ dot n t0 x0
unfolding sum
dot-lines zero t1 t0 x1 x0 r = simp K·ring
dot-lines (suc n) t1 t0 x1 x0 r =
    ap (λ (z : ℕ). z ⊕ (line (t1 n) (t0 n) r ⊗ line (x1 n) (x0 n) r)) (dot-lines n t1 t0 x1 x0 r)
    ∙ dot-lines-step (dot n t1 x1) (dot n t0 x1) (dot n t1 x0) (dot n t0 x0) (t1 n) (t0 n) (x1 n) (x0 n) r

dot-line-step : (a c f x1 x0 r : ℕ) → line a c r ⊕ (f ⊗ line x1 x0 r) ≡ line (a ⊕ (f ⊗ x1)) (c ⊕ (f ⊗ x0)) r
dot-line-step a c f x1 x0 r = simp K·ring

-- a vector times a vector of lines
pub dot-line : (n : ℕ) (f x1 x0 : ℕ → ℕ) (r : ℕ) → dot n f (λ k. line (x1 k) (x0 k) r) ≡ line (dot n f x1) (dot n f x0) r
unfolding sum
dot-line zero f x1 x0 r = simp K·ring
dot-line (suc n) f x1 x0 r =
    ap (λ (z : ℕ). z ⊕ (f n ⊗ line (x1 n) (x0 n) r)) (dot-line n f x1 x0 r) ∙ dot-line-step (dot n f x1) (dot n f x0) (f n) (x1 n) (x0 n) r

pub dot-⊕-l : (n : ℕ) (f g x : ℕ → ℕ) → dot n (λ j. f j ⊕ g j) x ≡ dot n f x ⊕ dot n g x
dot-⊕-l n f g x = ap (sum n) (fun_ext (λ j. ⊗-⊕-l (f j) (g j) (x j))) ∙ sum-⊕ n (λ j. f j ⊗ x j) (λ j. g j ⊗ x j)

-- ---- an equation

dot-scaled-step : (a f x r : ℕ) → (a ⊗ r) ⊕ ((f ⊗ r) ⊗ x) ≡ (a ⊕ (f ⊗ x)) ⊗ r
dot-scaled-step a f x r = simp K·ring

dot-scaled : (n : ℕ) (f x : ℕ → ℕ) (r : ℕ) → dot n (λ j. f j ⊗ r) x ≡ dot n f x ⊗ r
unfolding sum
dot-scaled zero f x r = simp K·ring
dot-scaled (suc n) f x r = ap (λ (z : ℕ). z ⊕ ((f n ⊗ r) ⊗ x n)) (dot-scaled n f x r) ∙ dot-scaled-step (dot n f x) (f n) (x n) r

-- the equation made homogeneous, at v and r: v' A v + b' v r - y r^2
pub z_at-form : (n : ℕ) (e : Equation) (v : ℕ → ℕ) (r : ℕ)
    → z_at n e v r ≡ dot n (mat suc e.A v) v ⊕ (dot n e.b v ⊗ r) ⊕ (e.y ⊗ (r ⊗ r))
z_at-form n e v r =
    ap (λ (z : ℕ). z ⊕ (e.y ⊗ (r ⊗ r)))
    (dot-⊕-l n (mat suc e.A v) (λ j. e.b j ⊗ r) v ∙ ap (λ (z : ℕ). dot n (mat suc e.A v) v ⊕ z) (dot-scaled n e.b v r))

line-⊕ : (a c b r : ℕ) → line a c r ⊕ (b ⊗ r) ≡ line (a ⊕ b) c r
line-⊕ a c b r = simp K·ring

gather : (a y b c r : ℕ) → (a ⊗ (r ⊗ r)) ⊕ (b ⊗ r) ⊕ c ⊕ (y ⊗ (r ⊗ r)) ≡ ((a ⊕ y) ⊗ (r ⊗ r)) ⊕ line b c r
gather a y b c r = simp K·ring

-- its value on a line, whether or not the leading coefficients x solve it
pub equation-line : (n : ℕ) (e : Equation) (x x0 : ℕ → ℕ) (r : ℕ)
    → z_at n e (λ k. line (x k) (x0 k) r) r ≡ ((form n e x ⊕ e.y) ⊗ (r ⊗ r)) ⊕ line (z1 n e x x0) (z0 n e x0) r
equation-line n e x x0 r =
    ap (λ (t : ℕ → ℕ). dot n t (λ k. line (x k) (x0 k) r) ⊕ (e.y ⊗ (r ⊗ r))) (fun_ext row)
    ∙ ap (λ (z : ℕ). z ⊕ (e.y ⊗ (r ⊗ r))) (dot-lines n t1 t0 x x0 r)
    ∙ gather (dot n t1 x) e.y (z1 n e x x0) (z0 n e x0) r
    ∙ ap (λ (z : ℕ). ((z ⊕ e.y) ⊗ (r ⊗ r)) ⊕ line (z1 n e x x0) (z0 n e x0) r) (dot-⊕-l n (mat suc e.A x) e.b x)
  where
    t0 : ℕ → ℕ
    t0 j = mat suc e.A x0 j

    t1 : ℕ → ℕ
    t1 j = mat suc e.A x j ⊕ e.b j

    row : (j : ℕ) → mat suc e.A (λ k. line (x k) (x0 k) r) j ⊕ (e.b j ⊗ r) ≡ line (t1 j) (t0 j) r
    row j = ap (λ (z : ℕ). z ⊕ (e.b j ⊗ r)) (dot-line (suc j) (e.A j) x x0 r) ∙ line-⊕ (mat suc e.A x j) (t0 j) (e.b j) r

leading-gone : (y r l : ℕ) → ((y ⊕ y) ⊗ (r ⊗ r)) ⊕ l ≡ l
leading-gone y r l = simp K·ring

-- where they solve it, it is the line that ComputePz works out
pub solved-line : (n : ℕ) (e : Equation) (x x0 : ℕ → ℕ) → Solves n e x
    → (r : ℕ) → z_at n e (λ k. line (x k) (x0 k) r) r ≡ line (z1 n e x x0) (z0 n e x0) r
solved-line n e x x0 h r =
    equation-line n e x x0 r
    ∙ ap (λ (z : ℕ). ((z ⊕ e.y) ⊗ (r ⊗ r)) ⊕ line (z1 n e x x0) (z0 n e x0) r) h
    ∙ leading-gone e.y r (line (z1 n e x x0) (z0 n e x0) r)

-- ---- an equation reads n elements of its vectors

module _ (n : ℕ) (e : Equation) (v w : ℕ → ℕ) (h : (k : ℕ) → k < n → v k ≡ w k) where
  mat-ext : (j : ℕ) → j < n → mat suc e.A v j ≡ mat suc e.A w j
  mat-ext j hj = sum-ext (suc j) _ _ (λ k hk. ap (e.A j k ⊗◌) (h k (omega arith)))

  pub z0-ext : z0 n e v ≡ z0 n e w
  z0-ext = sum-ext n _ _ (λ j hj. ap₂ ◌⊗◌ (mat-ext j hj) (h j hj))

  pub form-ext : form n e v ≡ form n e w
  form-ext = ap₂ ◌⊕◌ z0-ext (sum-ext n _ _ (λ j hj. ap (e.b j ⊗◌) (h j hj)))

  pub z_at-ext : (r : ℕ) → z_at n e v r ≡ z_at n e w r
  z_at-ext r =
      ap (λ (z : ℕ). z ⊕ (e.y ⊗ (r ⊗ r))) (sum-ext n _ _ (λ j hj. ap₂ ◌⊗◌ (ap (λ (z : ℕ). z ⊕ (e.b j ⊗ r)) (mat-ext j hj)) (h j hj)))

pub z1-ext : (n : ℕ) (e : Equation) (x y v w : ℕ → ℕ) → ((k : ℕ) → k < n → x k ≡ y k) → ((k : ℕ) → k < n → v k ≡ w k) → z1 n e x v ≡ z1 n e y w
z1-ext n e x y v w hx hv =
    ap₂ ◌⊕◌ (sum-ext n _ _ (λ j hj. ap₂ ◌⊗◌ (mat-ext n e v w hv j hj) (hx j hj)))
    (sum-ext n _ _ (λ j hj. ap₂ ◌⊗◌ (ap (λ (z : ℕ). z ⊕ e.b j) (mat-ext n e x y hx j hj)) (hv j hj)))
