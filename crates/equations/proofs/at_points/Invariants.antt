-- `equations::at_points` meets its contract: before turn j the value's part and the first j rows are added. Assumes nothing.
use mathlib.Core.Path.{◌≡◌}
use Prim.Native.Nat.{ℕ}
use Rattle.equations.specs.Lanes.{Masks}
use Rattle.equations.proofs.Rows.{sofar}
use Rattle.equations.proofs.Evals.{of_value, of_row}
use Rattle.equations.proofs.at_points.Given as goal

abbrev pub invariant-loop-j : goal.invariant-loop-j
invariant-loop-j l = ((v : ℕ → ℕ → ℕ) → Masks l.m v → l.z ≡ sofar 24 (of_value l.q v l.y) (of_row l.q v) l.j)
