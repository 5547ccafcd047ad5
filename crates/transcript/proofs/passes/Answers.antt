-- `transcript::passes` meets its contract. Assumes nothing.
use mathlib.Core.Path.{refl}
use Rattle.paper.specs.Challenge.{passes}
use Rattle.transcript.proofs.passes.Goals as goal

pub returns : goal.returns
unfolding passes
returns c = refl
