-- `equations::on_lines` meets its contract: before turn j the first j rows are added. Assumes nothing.
use mathlib.Core.Path.{◌≡◌}
use Prim.Native.Nat.{ℕ}
use Rattle.equations.specs.Lanes.{Masks}
use Rattle.equations.proofs.Rows.{sofar}
use Rattle.equations.proofs.Evals.{of_row, of_cross}
use Rattle.equations.proofs.on_lines.Given as goal

abbrev pub invariant-loop-j : goal.invariant-loop-j
invariant-loop-j l = ((v : ℕ → ℕ → ℕ) → Masks l.m v → l.z0 ≡ sofar 24 (λ l. 0) (of_row l.q v) l.j)
    × ((v : ℕ → ℕ → ℕ) → Masks l.m v → l.z1 ≡ sofar 24 (λ l. 0) (of_cross l.q v) l.j)
