-- `signer::Signer::salt_block` meets its contract. Assumes nothing.
use Rattle.std.proofs.Common.{◌∙◌}
use Rattle.octets.proofs.Part.{part-all}
use Rattle.signer.proofs.Signer.salt_block.Goals as goal

pub returns : goal.returns
returns c =
    let s = c.args.self.now in
    c.load.ensures ∙ part-all 16 s.salt s.salt_len
