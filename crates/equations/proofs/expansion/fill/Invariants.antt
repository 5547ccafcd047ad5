-- `expansion::fill` meets its contract: before turn i the first i blocks stand in q. Assumes nothing.
use mathlib.Core.Path.{◌≡◌}
use Prim.Native.Nat.{◌*◌}
use lib.ListN.{length}
use Rattle.octets.specs.Lists.{part, joined, zero16}
use Rattle.aes.specs.Words.{block_of}
use Rattle.paper.specs.Symmetric.{prg_block}
use Rattle.equations.proofs.expansion.fill.Given as goal

abbrev pub invariant-loop-i : goal.invariant-loop-i
invariant-loop-i l = (length l.q ≡ 1652) × (part 0 (16 * l.i) l.q ≡ joined l.i (prg_block zero16 0 (block_of l.s)))
