-- `lines::fold_leaves` meets its contract. Assumes nothing.
use Rattle.std.specs.Prelude.{unwrap_or}
use Rattle.folding.specs.Rows.{Folds}
use Rattle.lines.specs.Standing.{raw_by}
use Rattle.lines.proofs.fold_leaves.Given as goal

abbrev pub invariant-loop-i : goal.invariant-loop-i
invariant-loop-i l = Folds l.f (raw_by l.tree.keys.now l.leaves (unwrap_or l.hidden 256)) l.i
