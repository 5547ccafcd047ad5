-- `checker::eval_all` meets its contract. Assumes nothing.
use Rattle.paper.specs.Challenge.{hidden_in}
use Rattle.checker.specs.State.{EvaluatedIn}
use Rattle.checker.proofs.eval_all.Given as goal

abbrev pub invariant-loop-e : goal.invariant-loop-e
invariant-loop-e l = EvaluatedIn l.sig (hidden_in l.c) l.e l.work
