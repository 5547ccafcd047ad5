-- Batching (document 001, section 2.1.2, "Batching with random combinations"): a row of lines is a line, and no matrix is the identity
-- matrix. Assumes nothing.
use mathlib.Core.Path.{◌≡◌, refl, ap, ◌∙◌, fun_ext}
use mathlib.Core.Bool.{Bool, true, false, cond}
use Prim.Native.Nat.{ℕ, ◌<◌}
use lib.Dec.{eqb}
use Rattle.field.specs.Gf.{◌⊗◌}
use Rattle.field.specs.Vec.{sum}
use Rattle.field.proofs.Field.{⊗-zero-l, ⊗-one-l}
use Rattle.field.proofs.Sum.{sum-ext}
use Rattle.algebra.specs.Line.{line, Batch, none, rows, batch, IsRow}
use Rattle.algebra.proofs.Only.{only, sum-only}
use Rattle.algebra.proofs.Equation.{dot-line}

pub batch-line : (m : ℕ) (B : Batch) (a c : ℕ → ℕ) (r j : ℕ) → batch m B (λ q. line (a q) (c q) r) j ≡ line (batch m B a j) (batch m B c j) r
unfolding batch
batch-line m none a c r j = refl
batch-line m (rows η G) a c r j = dot-line m (G j) a c r

-- a row depends on the first m values alone
pub batch-ext : (m : ℕ) (B : Batch) (f g : ℕ → ℕ) → ((q : ℕ) → q < m → f q ≡ g q) → (j : ℕ) → IsRow m B j → batch m B f j ≡ batch m B g j
unfolding batch IsRow
batch-ext m none f g h j t = h j t
batch-ext m (rows η G) f g h j t = sum-ext m _ _ (λ q hq. ap (G j q ⊗◌) (h q hq))

-- the identity matrix: 1 where q is j, and 0 elsewhere
unfoldable pub unit : ℕ → ℕ → ℕ
unit j q = cond (eqb q j) 1 0

pub batch-identity : (m : ℕ) (z : ℕ → ℕ) (j : ℕ) → j < m → z j < 256 → batch m (rows m unit) z j ≡ batch m none z j
unfolding batch unit only
batch-identity m z j h hz = ap (sum m) (fun_ext at_one) ∙ sum-only m j (λ q. 1 ⊗ z q) h ∙ ⊗-one-l (z j) hz
  where
    at_one : (q : ℕ) → cond (eqb q j) 1 0 ⊗ z q ≡ only j (λ q. 1 ⊗ z q) q
    at_one q = go (eqb q j)
      where
        go : (t : Bool) → cond t 1 0 ⊗ z q ≡ cond t (1 ⊗ z q) 0
        go true = refl
        go false = ⊗-zero-l (z q)
