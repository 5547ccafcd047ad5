-- Document 001, section 2.5.1 (algorithms 6 to 9). ComputePz (7) and ComputePzEval (9) of one packed equation are `z0`, `z1` and `z_at` of the
-- algebra. Definitions only.
use Rattle.std.specs.Prelude.{List, ◌++◌, ℕ, ◌*◌, ◌<◌}
use Rattle.octets.specs.Xor.{◌⊕◌}
use Rattle.octets.specs.Lists.{vec, tab, part, joined}
use Rattle.field.specs.Gf.{◌⊗◌}
use Rattle.field.specs.Vec.{grid, lifted}
use Rattle.algebra.specs.Line.{Batch, none, rows, batch, IsRow, Setting, z0, z1, z_at}
use Rattle.paper.specs.Symmetric.{xof, hash, for_alphas, for_gamma}
use Rattle.paper.specs.Keys.{equation}
use Rattle.algebra.specs.Folding.{point}
use Rattle.paper.specs.Commit.{u0_at, u1_at, x0_at, x_eval, u_eval}

-- three rounds or five: η, and Γ of com_1 (lines 1 to 4 of algorithms 6 and 8)
pub record Variant : Type 0 where
  pub eta : ℕ
  pub gamma : List ℕ → Batch

-- this set: no matrix
abbrev pub r3 : Variant
r3 = record { eta = 28; gamma = λ c1. none }

-- the set with five rounds, of which only the definitions and theorems are here
abbrev pub r5 : Variant
r5 = record { eta = 16; gamma = λ c1. rows 16 (grid 28 (xof for_gamma c1 448) 0) }

-- Γ has η rows
pub record HasRows (v : Variant) : Type 0 where
  pub row : (c1 : List ℕ) (j : ℕ) → j < v.eta → IsRow 28 (v.gamma c1) j
  pub below : (c1 : List ℕ) (j : ℕ) → IsRow 28 (v.gamma c1) j → j < v.eta

abbrev pub setting_of : Variant → List ℕ → List ℕ → List ℕ → Setting
setting_of v c1 mseed_eq y = record { N = 256; n = 56; m = 28; w = point; eqs = equation mseed_eq y; B = v.gamma c1 }

module _ (v : Variant) (c1 mseed_eq y : List ℕ) where
  -- algorithm 6, ComputePAlpha: lines 7 to 9 for repetition e
  module _ (mseed salt x : List ℕ) where
    unfoldable pub alpha0_at : ℕ → List ℕ
    alpha0_at e =
        tab v.eta
        (λ j. u0_at v.eta mseed salt x e j ⊕ batch 28 (v.gamma c1) (λ q. z0 56 (equation mseed_eq y q) (x0_at v.eta mseed salt x e)) j)

    unfoldable pub alpha1_at : ℕ → List ℕ
    alpha1_at e =
        tab v.eta
        (λ j. u1_at v.eta mseed salt x e j ⊕ batch 28 (v.gamma c1) (λ q. z1 56 (equation mseed_eq y q) (lifted x) (x0_at v.eta mseed salt x e)) j)

  -- algorithm 8, RecomputePAlpha: lines 7 to 12 for repetition e, of the values of algorithm 12
  module _ (salt paths sent a1 : List ℕ) (i : ℕ → ℕ) where
    unfoldable pub alpha0_in : ℕ → List ℕ
    alpha0_in e =
        tab v.eta
        (λ j.
        u_eval v.eta salt paths sent e (i e) j
        ⊕ batch 28 (v.gamma c1) (λ q. z_at 56 (equation mseed_eq y q) (x_eval v.eta salt paths sent e (i e)) (point (i e))) j
        ⊕ (vec (part (v.eta * e) v.eta a1) j ⊗ point (i e)))

-- com_2 (algorithm 3, line 8; 5, line 10)
unfoldable pub com2_from : (ℕ → List ℕ) → List ℕ → List ℕ
com2_from a0 a1 = hash for_alphas (joined 17 a0 ++ a1)
