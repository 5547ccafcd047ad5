-- `transcript::put_nonce` meets its contract. Assumes nothing.
use Rattle.std.proofs.Common.{◌∙◌}
use Rattle.octets.proofs.Laid.{bytes_of-four}
use Rattle.transcript.proofs.put_nonce.Goals as goal

pub returns : goal.returns
returns c = c.copy_from_slice.ensures.after ∙ c.to_le_bytes.ensures ∙ bytes_of-four c.args.nonce
