-- `signer::results` meets its contract: before turn i, i equations are added. Assumes nothing.
use Rattle.signer.specs.State.{Within}
use Rattle.signer.proofs.Columns.{Sums}
use Rattle.signer.proofs.results.Given as goal

abbrev pub invariant-loop-i : goal.invariant-loop-i
invariant-loop-i l = Within 42401 952 l.initial.work l.work × Sums l.pk l.initial.work l.i l.work l.d
