-- `seeds::Purpose::selector` meets its contract: its table is that of the definitions. Assumes nothing.
use Rattle.paper.specs.Symmetric.{selector, selectors}
use Rattle.std.proofs.Common.{arith}
use Rattle.seeds.proofs.Purpose.selector.Goals as goal

pub returns : goal.returns
unfolding selector selectors
returns c = grind arith
