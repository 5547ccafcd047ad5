-- A worked example, by computing: the points of document 001's section 3.1 are Gray codes, which differ from plain numbers first at 2.
-- Assumes nothing.
use mathlib.Core.Path.{◌≡◌, refl}
use Rattle.octets.specs.Xor.{◌⊕◌}
use Rattle.algebra.specs.Folding.{point}

pub gray-2-3 : (point 2 ≡ 3) × (point 3 ≡ 2)
unfolding point ◌⊕◌
gray-2-3 = (refl, refl)
