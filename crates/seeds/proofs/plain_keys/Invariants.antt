-- `seeds::plain_keys` meets its contract: before turn i the first i keys stand. Assumes nothing.
use mathlib.Core.Path.{◌≡◌}
use Prim.Native.Nat.{◌*◌}
use Rattle.octets.specs.Lists.{part, joined}
use Rattle.seeds.proofs.Keys.{plain_key}
use Rattle.seeds.proofs.plain_keys.Given as goal

abbrev pub invariant-loop-i : goal.invariant-loop-i
invariant-loop-i l = part 0 (176 * l.i) l.out ≡ joined l.i plain_key
