-- `equations::spread` meets its contract: before turn k the first k vectors are spread. Assumes nothing.
use Rattle.equations.proofs.Spreading.{Spreading}
use Rattle.equations.proofs.spread.Given as goal

abbrev pub invariant-loop-k : goal.invariant-loop-k
invariant-loop-k l = Spreading l.initial.vectors l.k l.vectors
