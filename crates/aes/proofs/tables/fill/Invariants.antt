-- `aes::tables::fill` meets its contract: before turn m the first m entries are the table's. Assumes nothing.
use Rattle.std.proofs.Common.{◌≡◌, ℕ, ◌<◌, ◌/◌, ◌%◌}
use Rattle.octets.specs.Lists.{vec, bytes_of}
use Rattle.aes.specs.Words.{spread}
use Rattle.aes.specs.Sbox.{sbox}
use Rattle.aes.proofs.tables.fill.Given as goal

abbrev pub invariant-loop-m : goal.invariant-loop-m
invariant-loop-m l = (j : ℕ) → j < l.m → bytes_of 4 (vec l.words j) ≡ spread (j / 256) (sbox (j % 256))
