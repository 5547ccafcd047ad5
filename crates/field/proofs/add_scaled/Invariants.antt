-- `field::add_scaled` meets its contract: before turn i the first i elements are the new ones. Assumes nothing.
use Rattle.std.proofs.Common.{◌≡◌, length}
use Rattle.octets.specs.Lists.{vec, tab}
use Rattle.octets.specs.Xor.{◌⊕◌}
use Rattle.octets.proofs.Write.{written}
use Rattle.field.specs.Gf.{◌⊗◌}
use Rattle.field.proofs.add_scaled.Given as goal

abbrev pub invariant-loop-i : goal.invariant-loop-i
invariant-loop-i l = l.dst ≡ written l.initial.dst 0 (tab (length l.initial.dst) (λ i. vec l.initial.dst i ⊕ (l.w ⊗ vec l.src i))) l.i
