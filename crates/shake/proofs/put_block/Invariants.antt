-- `shake::put_block` meets its contract: before turn k the first k lanes are added. Assumes nothing.
use Rattle.std.proofs.Common.{◌≡◌, ◌*◌, take}
use Rattle.shake.specs.Shake.{xor_bytes}
use Rattle.shake.proofs.put_block.Given as goal

abbrev pub invariant-loop-k : goal.invariant-loop-k
invariant-loop-k l = l.a ≡ xor_bytes l.initial.a 0 (take (8 * l.k) l.block)
