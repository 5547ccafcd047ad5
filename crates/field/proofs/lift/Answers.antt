-- `field::lift` meets its contract. Assumes nothing.
use Rattle.field.proofs.Morphism.{lift-digits}
use Rattle.field.proofs.lift.Goals as goal

pub returns : goal.returns
returns c = lift-digits c.args.n
