-- `transcript::fiat_shamir` meets its contract. Assumes nothing.
use Rattle.transcript.proofs.Inputs.{transcript-flat}
use Rattle.transcript.proofs.fiat_shamir.Goals as goal

pub returns : goal.returns
returns c =
    let s = c.args in
    transcript-flat s.pk.now s.com1.now s.com2.now s.msg.now c.hash_after-m.ensures c.transcript_input.ensures c.hash32.ensures
