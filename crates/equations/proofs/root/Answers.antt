-- `equations::root` meets its contract: before a turn the lanes so far are the new ones. Assumes nothing.
use native.Mathlib.Omega.{arith}
use Rattle.equations.proofs.Put.{put_all}
use Rattle.equations.proofs.root.Goals as goal

pub returns : goal.returns
returns c =
    let l = c.loop-a in
    put_all _ 24 l.a-index _ l.a-items l.invariant.0 (omega arith) l.invariant.1
