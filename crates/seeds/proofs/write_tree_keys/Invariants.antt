-- `seeds::write_tree_keys` meets its contract: before turn k the first k keys stand. Assumes nothing.
use mathlib.Core.Path.{◌≡◌}
use Prim.Native.Nat.{◌*◌}
use lib.ListN.{length}
use Rattle.octets.specs.Lists.{part, joined}
use Rattle.aes.specs.Words.{block_of}
use Rattle.seeds.specs.Expanded.{tree_key}
use Rattle.seeds.proofs.write_tree_keys.Given as goal

abbrev pub invariant-loop-k : goal.invariant-loop-k
invariant-loop-k l = (length l.out ≡ 2112) × (part 0 (176 * l.k) l.out ≡ joined l.k (tree_key (block_of l.salt) l.e))
