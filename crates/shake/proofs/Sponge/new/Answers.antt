-- `shake::Sponge::new` meets its contract. Assumes nothing.
use mathlib.Core.Path.{refl}
use Rattle.shake.specs.Shake.{xor_bytes, absorb_blocks}
use Rattle.shake.specs.Held.{fed}
use Rattle.shake.proofs.Sponge.new.Goals as goal

pub returns : goal.returns
unfolding fed xor_bytes absorb_blocks
returns c = refl
