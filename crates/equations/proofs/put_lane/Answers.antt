-- `equations::put_lane` meets its contract: before turn k the first k vectors have their lane. Assumes nothing.
use mathlib.Core.Path.{refl}
use native.Mathlib.Omega.{arith}
use Rattle.equations.proofs.Put.{put-turn, put-end}
use Rattle.equations.proofs.put_lane.Goals as goal

pub loop-k-preserved : goal.loop-k-preserved
loop-k-preserved c =
    let l = c.loop-k in
    put-turn _ _ _ l.k l.vectors l.invariant (λ k h q. omega arith) _ (omega arith) refl

pub returns : goal.returns
returns c =
    let l = c.loop-k in
    put-end _ l.k _ _ _ l.vectors (omega arith) (omega arith) l.invariant
