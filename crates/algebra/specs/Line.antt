-- Lines over K and packed equations, for one repetition: document 001, sections 2.1.2 and 2.1.3, algorithms 6 to 9 (2.5.1), and the sums of
-- algorithms 10 and 12 (2.5.2). A vector is a function. Each element is its own negative, so that a minus of the document is a plus here.
-- Definitions only.
use Rattle.std.specs.Prelude.{◌≡◌, List, ℕ, suc, ◌+◌, ◌<◌}
use Rattle.octets.specs.Xor.{◌⊕◌}
use Rattle.octets.specs.Lists.{view}
use Rattle.field.specs.Gf.{◌⊗◌}
use Rattle.field.specs.Vec.{sum, skip, dot, mat, triangle, row_start}

-- the line a X + c, at r: a is its leading coefficient, or value at ∞, and c its constant term
abbrev pub line : ℕ → ℕ → ℕ → ℕ
line a c r = (a ⊗ r) ⊕ c

-- f, a function on K, has degree at most 1
pub record IsLine (f : ℕ → ℕ) : Type 0 where
  pub leading : ℕ
  pub constant : ℕ
  pub agrees : (r : ℕ) → r < 256 → f r ≡ line leading constant r

-- ---- one coordinate of the committed lines: leaf k has the share s k and the point w k

-- u_0[e] and x_0[e]: lines 11 and 13 of algorithm 10
abbrev pub constant_of : ℕ → (ℕ → ℕ) → (ℕ → ℕ) → ℕ
constant_of N w s = sum N (λ k. w k ⊗ s k)

-- Δ_x[e], line 14: with it the shares add up to x
abbrev pub correction_of : ℕ → (ℕ → ℕ) → ℕ → ℕ
correction_of N s x = x ⊕ sum N s

-- v_x and v_u, the values at r, from the correction d and shares of which one may be 0: (Δ_x + x_ACC) r - x_FOLD
abbrev pub value_of : ℕ → (ℕ → ℕ) → (ℕ → ℕ) → ℕ → ℕ → ℕ
value_of N w s d r = line (d ⊕ sum N s) (constant_of N w s) r

-- ---- one packed equation: A is triangular, its rows have 1, 2, .. n elements

pub record Equation : Type 0 where
  pub A : ℕ → ℕ → ℕ
  pub b : ℕ → ℕ
  pub y : ℕ

-- the equation that lies in l from place o on: the rows of A one after the other, and then b (lines 5 to 8 of algorithm 2)
abbrev pub equation_in : ℕ → List ℕ → ℕ → ℕ → Equation
equation_in n l o y = record { A = triangle l o; b = view l (o + row_start n); y = y }

-- x' A x + b' x, with the product t of either field
abbrev pub form_of : (ℕ → ℕ → ℕ) → ℕ → Equation → (ℕ → ℕ) → ℕ
form_of t n e x = sum n (λ j. t (sum (suc j) (λ k. t (e.A j k) (x k))) (x j)) ⊕ sum n (λ j. t (e.b j) (x j))

abbrev pub form : ℕ → Equation → (ℕ → ℕ) → ℕ
form n e x = form_of ◌⊗◌ n e x

-- x solves e
abbrev pub Solves : ℕ → Equation → (ℕ → ℕ) → Type 0
Solves n e x = form n e x ≡ e.y

-- algorithm 7, ComputePz: t_0 is A x_0, and t_1 is A x + b
abbrev pub z0 : ℕ → Equation → (ℕ → ℕ) → ℕ
z0 n e x0 = dot n (mat suc e.A x0) x0

abbrev pub z1 : ℕ → Equation → (ℕ → ℕ) → (ℕ → ℕ) → ℕ
z1 n e x x0 = dot n (mat suc e.A x0) x ⊕ dot n (λ j. mat suc e.A x j ⊕ e.b j) x0

-- algorithm 9, ComputePzEval: v_t is A v + b r, where v is the solution line's value at r
abbrev pub z_at : ℕ → Equation → (ℕ → ℕ) → ℕ → ℕ
z_at n e v r = dot n (λ j. mat suc e.A v j ⊕ (e.b j ⊗ r)) v ⊕ (e.y ⊗ (r ⊗ r))

-- ---- batching (lines 1 to 4 of algorithms 6 and 8): Γ of η rows, or none, which stands for the identity matrix

pub data Batch : Type 0 where
  none : Batch
  rows : ℕ → (ℕ → ℕ → ℕ) → Batch

-- row j of Γ z, where z has m elements
unfoldable pub batch : ℕ → Batch → (ℕ → ℕ) → ℕ → ℕ
batch m none z j = z j
batch m (rows η G) z j = mat (λ i. m) G z j

-- j is a row
unfoldable pub IsRow : ℕ → Batch → ℕ → Type 0
IsRow m none j = j < m
IsRow m (rows η G) j = j < η

-- ---- one repetition: N leaves with the points w, n unknowns, m packed equations

pub record Setting : Type 0 where
  pub N : ℕ
  pub n : ℕ
  pub m : ℕ
  pub w : ℕ → ℕ
  pub eqs : ℕ → Equation
  pub B : Batch

-- what the signer has: leaf k's shares X k of the solution x, and U k of the mask
pub record Shares : Type 0 where
  pub x : ℕ → ℕ
  pub X : ℕ → ℕ → ℕ
  pub U : ℕ → ℕ → ℕ

module _ (c : Setting) (h : Shares) where
  abbrev pub x0 : ℕ → ℕ
  x0 i = constant_of c.N c.w (λ k. h.X k i)

  abbrev pub delta : ℕ → ℕ
  delta i = correction_of c.N (λ k. h.X k i) (h.x i)

  -- the mask line's coefficients
  abbrev pub u0 : ℕ → ℕ
  u0 j = constant_of c.N c.w (λ k. h.U k j)

  abbrev pub u1 : ℕ → ℕ
  u1 j = sum c.N (λ k. h.U k j)

  -- algorithm 6, ComputePAlpha, lines 8 and 9: the result line's coefficients
  abbrev pub alpha0 : ℕ → ℕ
  alpha0 j = u0 j ⊕ batch c.m c.B (λ q. z0 c.n (c.eqs q) x0) j

  abbrev pub alpha1 : ℕ → ℕ
  alpha1 j = u1 j ⊕ batch c.m c.B (λ q. z1 c.n (c.eqs q) h.x x0) j

-- what the checker works out with leaf s hidden, whose shares it does not read: lines 14 and 15 of algorithm 12
abbrev pub vx : Setting → ℕ → (ℕ → ℕ → ℕ) → (ℕ → ℕ) → ℕ → ℕ
vx c s X d i = value_of c.N c.w (skip s (λ k. X k i)) (d i) (c.w s)

abbrev pub vu : Setting → ℕ → (ℕ → ℕ → ℕ) → ℕ → ℕ
vu c s U j = value_of c.N c.w (skip s (λ k. U k j)) 0 (c.w s)

-- algorithm 8, RecomputePAlpha, lines 10 to 12: α_0, from the result line's leading coefficients a1
abbrev pub checked0 : Setting → ℕ → (ℕ → ℕ → ℕ) → (ℕ → ℕ → ℕ) → (ℕ → ℕ) → (ℕ → ℕ) → ℕ → ℕ
checked0 c s X U d a1 j = vu c s U j ⊕ batch c.m c.B (λ q. z_at c.n (c.eqs q) (vx c s X d) (c.w s)) j ⊕ (a1 j ⊗ c.w s)

-- what the checker is handed is the signer's, but for the hidden leaf
pub record Opens (c : Setting) (h : Shares) (s : ℕ) (X U : ℕ → ℕ → ℕ) (d a1 : ℕ → ℕ) : Type 0 where
  pub X-same : (k i : ℕ) → k < c.N → (k ≡ s → ⊥) → i < c.n → X k i ≡ h.X k i
  pub U-same : (k j : ℕ) → k < c.N → (k ≡ s → ⊥) → IsRow c.m c.B j → U k j ≡ h.U k j
  pub d-same : (i : ℕ) → i < c.n → d i ≡ delta c h i
  pub a1-same : (j : ℕ) → IsRow c.m c.B j → a1 j ≡ alpha1 c h j
