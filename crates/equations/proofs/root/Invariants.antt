-- `equations::root` meets its contract: before a turn the lanes so far are the new ones. Assumes nothing.
use mathlib.Core.Path.{◌≡◌}
use lib.ListN.{length}
use Rattle.octets.specs.Lists.{vec}
use Rattle.field.specs.Gf.{times_root}
use Rattle.equations.specs.Put.{Put}
use Rattle.equations.proofs.root.Given as goal

abbrev pub invariant-loop-a : goal.invariant-loop-a
invariant-loop-a l = (length l.a-items ≡ 24) × Put l.initial.a-items l.a-index (λ i. i) (λ i. times_root 7 0x1b (vec l.initial.a-items i)) l.a-items
