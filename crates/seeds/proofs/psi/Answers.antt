-- `seeds::psi` meets its contract. Assumes nothing.
use Rattle.seeds.proofs.Blocks.{block-psi}
use Rattle.seeds.proofs.psi.Goals as goal

pub returns : goal.returns
returns c = block-psi c.args.s
