-- `field::mul` meets its contract: `r` and what is left of the sum make the product.
-- Assumes nothing.
use Rattle.std.proofs.Common.{◌<◌, arith}
use Rattle.field.proofs.Steps.{mul-turn, mask-turn, root-shift, root-shift-lt, mul-start, mul-end}
use Rattle.field.proofs.mul.Goals as goal

pub loop-init : goal.loop-init
loop-init c = (omega arith, mul-start c.args.a c.args.b (omega arith))

pub loop-preserved : goal.loop-preserved
loop-preserved c =
    let l = c.loop in
    let h : l.x < 256 = omega arith in
    (root-shift-lt l.x h, mul-turn l.counter l.r l.x l.y _ _ _ (omega arith) l.invariant.1 (mask-turn l.r l.x l.y h) (root-shift l.x h))

pub returns : goal.returns
returns c =
    let l = c.loop in
    mul-end l.counter l.r l.x l.y _ (omega arith) (omega arith) l.invariant.1
