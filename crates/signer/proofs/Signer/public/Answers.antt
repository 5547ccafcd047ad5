-- `signer::Signer::public` meets its contract. Assumes nothing.
use Rattle.std.proofs.Common.{arith}
use Rattle.std.proofs.lemmas.Grind.{common_steps}
use Rattle.octets.specs.Lists.{part}
use Rattle.paper.specs.Keys.{public_of}
use Rattle.signer.proofs.Signer.public.Goals as goal

pub returns : goal.returns
unfolding part public_of
returns c = grind (arith, common_steps)
