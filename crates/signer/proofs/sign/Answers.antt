-- `signer::sign` meets its contract. Assumes nothing.
use Rattle.signer.proofs.Signing.{signed-answer}
use Rattle.std.proofs.Common.{arith}
use Rattle.signer.proofs.sign.Goals as goal

pub returns : goal.returns
returns c =
    let a = c.args in
    let p = c.prepare in
    signed-answer a.sk.now a.msg.now a.salt.now a.mseed.now _ a.tries _ a.sig.now p.ensures _ _ c.if-not-prepare.false
    (c.answer.ensures a.mseed.now _ (omega arith) p.ensures)
