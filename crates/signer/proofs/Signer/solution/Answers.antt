-- `signer::Signer::solution` meets its contract. Assumes nothing.
use Rattle.std.proofs.Common.{arith}
use Rattle.std.proofs.lemmas.Grind.{common_steps}
use Rattle.octets.specs.Lists.{part}
use Rattle.paper.specs.Keys.{solution_of}
use Rattle.signer.proofs.Signer.solution.Goals as goal

pub returns : goal.returns
unfolding part solution_of
returns c = grind (arith, common_steps)
