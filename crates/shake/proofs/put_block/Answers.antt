-- `shake::put_block` meets its contract: before turn k the first k lanes are added. Assumes nothing.
use Rattle.std.proofs.Common.{◌*◌, refl, ap, ◌∙◌, arith}
use lib.Seq.{take_all}
use Rattle.shake.specs.Shake.{xor_bytes}
use Rattle.shake.proofs.Lanes.{block-turn}
use Rattle.shake.proofs.put_block.Goals as goal

pub loop-k-init : goal.loop-k-init
unfolding xor_bytes
loop-k-init c = refl

pub loop-k-preserved : goal.loop-k-preserved
loop-k-preserved c =
    block-turn c.args.a.now c.args.block.now c.loop-k.k _ c.as_chunks.ensures.front (omega arith) c.loop-k.invariant c.put8.ensures

pub returns : goal.returns
returns c = c.loop-k.invariant ∙ ap (xor_bytes c.args.a.now 0) (take_all (8 * c.loop-k.k) c.args.block.now (omega arith))
