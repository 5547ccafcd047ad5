-- `folding::weighted` meets its contract. Assumes nothing.
use Rattle.std.proofs.Common.{◌-◌, arith}
use Rattle.folding.proofs.Horner.{horner-start, horner-turn, horner-byte, horner-end}
use Rattle.folding.proofs.weighted.Goals as goal

pub loop-j-init : goal.loop-j-init
loop-j-init t c = (c.row-r.type_inv, λ g h. horner-start g _ (h 7 _ (omega arith) c.row-r.ensures))

pub loop-j-preserved : goal.loop-j-preserved
loop-j-preserved t c =
    let l = c.loop-j in (
      horner-byte l.r _ c.row.result c.times_root.ensures c.row.type_inv,
      λ g h. horner-turn g l.j l.r _ _ _ (omega arith) (omega arith) c.times_root.ensures (h (l.j - 1) _ (omega arith) c.row.ensures) (l.invariant.1 g h),
    )

pub returns : goal.returns
returns t c = λ g h. horner-end g _ _ _ (omega arith) c.loop-j.invariant.0 (c.loop-j.invariant.1 g h)
