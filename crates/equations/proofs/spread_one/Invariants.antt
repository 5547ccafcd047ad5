-- `equations::spread_one` meets its contract: before digit b the digits above it are spread. Assumes nothing.
use Rattle.equations.specs.Lanes.{Spread}
use Rattle.equations.proofs.spread_one.Given as goal

abbrev pub invariant-loop-b : goal.invariant-loop-b
invariant-loop-b l = Spread l.initial.vectors l.k l.b l.vectors
