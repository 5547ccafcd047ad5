-- `field::add` meets its contract: before turn i the first i elements are the new ones. Assumes nothing.
use Rattle.std.proofs.Common.{◌≡◌}
use Rattle.octets.specs.Xor.{xor_b}
use Rattle.octets.proofs.Write.{written}
use Rattle.field.proofs.add.Given as goal

abbrev pub invariant-loop-i : goal.invariant-loop-i
invariant-loop-i l = l.dst ≡ written l.initial.dst 0 (xor_b l.initial.dst l.src) l.i
