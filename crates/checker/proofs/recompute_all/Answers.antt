-- `checker::recompute_all` meets its contract. Assumes nothing.
use Rattle.std.proofs.Common.{arith, ◌≡◌}
use Rattle.checker.proofs.recompute_all.Goals as goal

pub loop-i-preserved : goal.loop-i-preserved
loop-i-preserved c =
    let o = c.recompute_one.ensures in
    record { keys = o.keys; adds = λ x p rest v lanes r. o.adds x p rest v lanes (c.loop-i.invariant.adds x p rest v lanes r) }

pub returns : goal.returns
returns c =
    let e : c.loop-i.i ≡ 28 = omega arith in
    λ x p rest v lanes r. rw e at c.loop-i.invariant.adds x p rest v lanes r
