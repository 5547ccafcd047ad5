-- `equations::fold` meets its contract: before digit b the digits above it are folded. Assumes nothing.
use mathlib.Core.Path.{refl}
use native.Mathlib.Omega.{arith}
use lib.ListN.{get_or-replicate}
use Rattle.equations.proofs.Horner.{fold_start, fold-turn, fold_end}
use Rattle.equations.proofs.fold.Goals as goal

pub loop-b-init : goal.loop-b-init
loop-b-init c = (omega arith, fold_start _ c.args.a.now (λ l h. get_or-replicate 24 l 0 0 h) refl)

pub loop-b-preserved : goal.loop-b-preserved
loop-b-preserved c =
    let l = c.loop-b in
    (omega arith, fold-turn c.args.a.now l.r _ l.b _ (omega arith) (omega arith) l.invariant.1 c.fold_digit.ensures)

pub returns : goal.returns
returns c =
    let l = c.loop-b in
    fold_end c.args.a.now l.r l.b (omega arith) l.invariant.1
