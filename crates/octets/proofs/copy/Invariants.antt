-- `octets::copy` meets its contract: before turn i the first i bytes are those of src. Assumes nothing.
use Rattle.std.proofs.Common.{◌≡◌}
use Rattle.octets.proofs.Write.{written}
use Rattle.octets.proofs.copy.Given as goal

abbrev pub invariant-loop-i : goal.invariant-loop-i
invariant-loop-i l = l.dst ≡ written l.initial.dst 0 l.src l.i
