-- `equations::row_value` meets its contract: before turn k the first k terms of the row are added. Assumes nothing.
use mathlib.Core.Path.{◌≡◌}
use Rattle.equations.proofs.Evals.{row_to}
use Rattle.equations.proofs.row_value.Given as goal

abbrev pub invariant-loop-k : goal.invariant-loop-k
invariant-loop-k l = (l.a ≡ row_to l.m l.q l.row l.j l.k)
