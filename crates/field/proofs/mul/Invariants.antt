-- `field::mul` meets its contract: `r` and what is left of the sum make the product.
-- Assumes nothing.
use Rattle.std.proofs.Common.{◌≡◌, ◌-◌, ◌<◌}
use Rattle.octets.specs.Xor.{◌⊕◌}
use Rattle.field.specs.Gf.{shift_add, ◌⊗◌}
use Rattle.field.proofs.mul.Given as goal

abbrev pub invariant-loop : goal.invariant-loop
invariant-loop l = (l.x < 256) × (l.r ⊕ shift_add 7 27 (8 - l.counter) l.x l.y ≡ l.a ⊗ l.b)
