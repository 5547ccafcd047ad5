-- Vectors over the repetitions, and the packed equations on all of them at once (document 001, 2.5.1).
-- A vector has 24 lanes: 0 to 16 the repetitions, 17 the signer's own solution, the others unused. There are 57 vectors: vector k < 56
-- has the element k of every lane, vector 56 the point of every lane. Definitions only.
use Rattle.std.specs.Prelude.{◌≡◌, List, ℕ, zero, suc, ◌+◌, ◌*◌, ◌/◌, ◌%◌, ◌^◌, ◌<◌, ◌≤◌}
use Rattle.octets.specs.Xor.{◌⊕◌}
use Rattle.octets.specs.Lists.{vec, view}
use Rattle.field.specs.Gf.{◌⊗◌, times_root}
use Rattle.field.specs.Vec.{sum, mat}
use Rattle.algebra.specs.Line.{Equation, equation_in, form, z0, z1}

-- ---- the buffer

-- lane l of vector k, as it is written
abbrev pub lane : List ℕ → ℕ → ℕ → ℕ
lane m k l = view m (192 * k) l

-- the mask of digit b of x: all digits of a byte are that digit
unfoldable pub mask_of : ℕ → ℕ → ℕ
mask_of x b = x / 2 ^ b % 2 * 255

-- m holds the masks of the vectors v: that of digit b of lane l of vector k at 192 k + 24 b + l
pub record Masks (m : List ℕ) (v : ℕ → ℕ → ℕ) : Type 0 where
  pub at : (k b l : ℕ) → k < 57 → b < 8 → l < 24 → view m (192 * k) (24 * b + l) ≡ mask_of (v k l) b

-- d with the masks of the digits from n on of vector k in their place
pub record Spread (d : List ℕ) (k n : ℕ) (d' : List ℕ) : Type 0 where
  pub masks : (b l : ℕ) → n ≤ b → b < 8 → l < 24 → view d' (192 * k) (24 * b + l) ≡ mask_of (lane d k l) b
  pub before : (i : ℕ) → i < 192 * k + 24 * n → vec d' i ≡ vec d i
  pub behind : (i : ℕ) → 192 * k + 192 ≤ i → vec d' i ≡ vec d i

-- ξ^b x
unfoldable pub times_power : ℕ → ℕ → ℕ
times_power zero x = x
times_power (suc b) x = times_root 7 0x1b (times_power b x)

-- the sum over the digits b of ξ^b times the lanes of a for b
unfoldable pub folded : List ℕ → ℕ → ℕ
folded a l = sum 8 (λ b. times_power b (vec a (24 * b + l)))

-- the sum over the digits b of f, at lanes l and 17 of ξ^b t and at the masks of digit b in lanes l and 17 of vector k
unfoldable pub by_digits : (ℕ → ℕ → ℕ → ℕ → ℕ) → List ℕ → ℕ → List ℕ → ℕ → ℕ
by_digits f m k t l =
    sum 8 (λ b. f (times_power b (vec t l)) (times_power b (vec t 17)) (view m (192 * k) (24 * b + l)) (view m (192 * k) (24 * b + 17)))

-- ---- an equation that lies in q, on the vectors v

-- element j of A v + b r, of an equation (ComputePz, lines 2 and 3; ComputePzEval, line 2)
abbrev pub row : Equation → (ℕ → ℕ) → ℕ → ℕ → ℕ
row e v r j = mat suc e.A v j ⊕ (e.b j ⊗ r)

-- the same on lane l
unfoldable pub row_on : List ℕ → (ℕ → ℕ → ℕ) → ℕ → ℕ → ℕ
row_on q v j l = row (equation_in 56 q 0 0) (λ k. v k l) (v 56 l) j

-- f and g hold the coefficients of the equation's line on each lane with the point 0 (ComputePz), where lane 17 has the point 1; lane 17
-- of f holds the equation's value there
pub record OnLines (q : List ℕ) (v : ℕ → ℕ → ℕ) (f g : List ℕ) : Type 0 where
  pub z0-is : (l : ℕ) → l < 24 → v 56 l ≡ 0 → vec f l ≡ z0 56 (equation_in 56 q 0 0) (λ k. v k l)
  pub z1-is : (l : ℕ) → l < 24 → v 56 l ≡ 0 → v 56 17 ≡ 1 → vec g l ≡ z1 56 (equation_in 56 q 0 0) (λ k. v k 17) (λ k. v k l)
  pub own : v 56 17 ≡ 1 → vec f 17 ≡ form 56 (equation_in 56 q 0 0) (λ k. v k 17)
