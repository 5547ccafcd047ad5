-- `keygen::put_values` meets its contract: before turn i the first i values stand in y. Assumes nothing.
use Rattle.std.proofs.Common.{◌≡◌}
use Rattle.octets.specs.Lists.{part}
use Rattle.octets.proofs.Write.{written}
use Rattle.paper.specs.Keys.{values_at}
use Rattle.keygen.proofs.put_values.Given as goal

abbrev pub invariant-loop-i : goal.invariant-loop-i
invariant-loop-i l = l.y ≡ written l.initial.y 0 (values_at (part 28 32 l.k) (part 0 28 l.k)) l.i
