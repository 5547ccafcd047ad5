-- `equations::fold` meets its contract: before digit b the digits above it are folded. Assumes nothing.
use mathlib.Core.Path.{◌≡◌}
use Prim.Native.Nat.{◌≤◌}
use Rattle.octets.specs.Lists.{tab}
use Rattle.equations.proofs.Horner.{folded_from}
use Rattle.equations.proofs.fold.Given as goal

abbrev pub invariant-loop-b : goal.invariant-loop-b
invariant-loop-b l = (l.b ≤ 8) × (l.r ≡ tab 24 (folded_from l.b l.a))
