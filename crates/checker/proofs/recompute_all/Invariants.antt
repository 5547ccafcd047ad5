-- `checker::recompute_all` meets its contract. Assumes nothing.
use Rattle.checker.proofs.Recomputing.{RecomputedTo}
use Rattle.checker.proofs.recompute_all.Given as goal

abbrev pub invariant-loop-i : goal.invariant-loop-i
invariant-loop-i l = RecomputedTo l.pk l.initial.work l.i l.work
