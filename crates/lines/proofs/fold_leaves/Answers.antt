-- `lines::fold_leaves` meets its contract. Assumes nothing.
use Rattle.std.proofs.Common.{arith}
use Rattle.algebra.proofs.Points.{position-lt}
use Rattle.folding.proofs.Folds.{folds-start, folds-turn}
use Rattle.lines.proofs.fold_leaves.Goals as goal

pub loop-i-init : goal.loop-i-init
loop-i-init c = folds-start _

pub add_tape-requires : goal.add_tape-requires
add_tape-requires c = omega (arith, c.position-p.ensures, position-lt 7 c.loop-i.i (omega arith))

pub loop-i-preserved : goal.loop-i-preserved
loop-i-preserved c = folds-turn _ _ _ _ _ _ c.position-p.ensures c.raw-r.ensures c.loop-i.invariant c.add_tape.ensures
