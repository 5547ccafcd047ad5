-- `field::lifted` meets its contract: `lift` reads the low half of what the shift leaves. Assumes nothing.
use mathlib.Core.Path.{sym, ◌∙◌}
use Rattle.field.specs.Vec.{half, lifted}
use Rattle.field.proofs.Field.{lift-mod}
use Rattle.field.proofs.lifted.Goals as goal

pub returns : goal.returns
unfolding lifted half
returns c = c.lift.ensures ∙ sym (lift-mod _)
