-- `seeds::zero` meets its contract. Assumes nothing.
use Rattle.seeds.proofs.Blocks.{zero-block}
use Rattle.seeds.proofs.zero.Goals as goal

pub returns : goal.returns
returns c = zero-block
