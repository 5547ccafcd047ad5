-- `equations::monomials` meets its contract: before turn j the unknowns and the first j rows are written. Assumes nothing.
use mathlib.Core.Path.{◌≡◌}
use lib.ListN.{length}
use Rattle.octets.specs.Lists.{vec}
use Rattle.equations.proofs.Flat.{Filled}
use Rattle.equations.proofs.monomials.Given as goal

abbrev pub invariant-loop-j : goal.invariant-loop-j
invariant-loop-j l = (length l.w ≡ 1652) × Filled (vec l.u) l.j l.w
