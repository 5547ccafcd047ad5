-- `equations::add_column` meets its contract: before turn e the first e rows have their element. Assumes nothing.
use mathlib.Core.Path.{refl}
use native.Mathlib.Omega.{arith}
use Rattle.equations.proofs.Put.{put-add, put-end}
use Rattle.equations.proofs.add_column.Goals as goal

pub loop-e-preserved : goal.loop-e-preserved
loop-e-preserved c =
    let l = c.loop-e in
    put-add _ _ _ l.e l.out l.invariant (λ k h q. omega arith) _ (omega arith) refl

pub returns : goal.returns
returns c =
    let l = c.loop-e in
    put-end _ l.e _ _ _ l.out (omega arith) (omega arith) l.invariant
