-- `lines::point` meets its contract. Assumes nothing.
use mathlib.Core.Path.{refl}
use Rattle.octets.specs.Xor.{◌⊕◌}
use Rattle.algebra.specs.Folding.{point}
use Rattle.lines.proofs.point.Goals as goal

pub returns : goal.returns
unfolding point ◌⊕◌
returns c = refl
