-- `transcript::sample` meets its contract. Assumes nothing.
use Rattle.std.proofs.Common.{◌∙◌, arith}
use Rattle.transcript.proofs.Inputs.{challenge-flat}
use Rattle.transcript.proofs.sample.Goals as goal

pub returns : goal.returns
returns c = c.xof.ensures
    ∙ challenge-flat c.args.hash.now c.args.nonce.now _ c.challenge_input-p.ensures c.requires (omega arith) c.put.ensures
