-- `signer::Signer::prepare` meets its contract. Assumes nothing.
use Rattle.signer.proofs.Signer.prepare.Goals as goal

pub returns : goal.returns
returns c = c.alphas.ensures c.args.mseed.now c.commit.ensures.adds
