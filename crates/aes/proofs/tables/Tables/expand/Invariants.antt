-- `aes::Tables::expand` meets its contract: before turn r the first r + 1 round keys stand, and k is the last of them. Assumes nothing.
use mathlib.Core.Path.{◌≡◌}
use Prim.Native.Nat.{◌+◌, ◌*◌}
use lib.ListN.{length}
use Rattle.octets.specs.Lists.{part, joined}
use Rattle.aes.specs.Words.{block_of}
use Rattle.aes.specs.Cipher.{x_power, key_word}
use Rattle.aes.proofs.Keys.{Held}
use Rattle.aes.proofs.tables.Tables.expand.Given as goal

abbrev pub invariant-loop-r : goal.invariant-loop-r
invariant-loop-r l = (length l.w ≡ 176)
    × (part 0 (16 * (l.r + 1)) l.w ≡ joined (4 * (l.r + 1)) (key_word (block_of l.initial.k)))
    × Held (block_of l.initial.k) l.r l.k
    × (l.rc ≡ x_power l.r)
