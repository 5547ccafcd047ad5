-- `kernels::each_block` meets its contract. Assumes nothing.
use Rattle.std.proofs.Common.{ap, ◌∙◌, arith}
use Rattle.aes.specs.Cipher.{cipher}
use Rattle.kernels.proofs.Blocks.{done_none, done-turn, done_all}
use Rattle.kernels.proofs.each_block.Goals as goal

pub loop-i-init : goal.loop-i-init
loop-i-init c = done_none _ _

pub loop-i-preserved : goal.loop-i-preserved
loop-i-preserved c =
    let l = c.loop-i in
    let w = c.args.w.now in
    c.store.ensures ∙ done-turn w c.args.buf.now l.i (omega arith) (omega arith) l.invariant (c.encrypt-y.ensures ∙ ap (cipher w) c.load-x.ensures)

pub returns : goal.returns
returns c =
    let l = c.loop-i in
    l.invariant ∙ done_all c.args.w.now c.args.buf.now l.i (omega arith) (omega arith) (omega arith)
