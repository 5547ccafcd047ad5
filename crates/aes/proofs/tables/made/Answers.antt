-- `aes::tables::made` meets its contract: the code's constant is the table of the rule. Assumes nothing.
use Rattle.std.proofs.Common.{◌≡◌, ◌/◌, ◌%◌, ◌∙◌, ap}
use native.Mathlib.Nat.{mod-lt}
use lib.Dec.{lit<}
use Rattle.octets.specs.Lists.{vec, bytes_of}
use Rattle.aes.specs.Words.{spread}
use Rattle.aes.proofs.Sbox.{table, sbox-rule}
use Rattle.aes.proofs.tables.made.Goals as goal

pub returns : goal.returns
unfolding table
returns c = let m = c.args.m in
    let e : bytes_of 4 c.entry.result ≡ spread (m / 256) (vec table (m % 256)) = c.entry.ensures in
    e ∙ ap (spread (m / 256)) (sbox-rule (m % 256) (mod-lt m (lit< tt)))
