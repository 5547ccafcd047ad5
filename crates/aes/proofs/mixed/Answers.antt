-- `aes::mixed` meets its contract. Assumes nothing.
use Prim.Native.Nat.{◌/◌, ◌%◌}
use native.Mathlib.Nat.{mod-lt}
use lib.Dec.{lit<}
use Rattle.aes.proofs.Rounds.{mixed-law}
use Rattle.aes.proofs.mixed.Goals as goal

pub returns : goal.returns
returns c = let a = c.args in
    mixed-law a.t.now.words.now a.t.now.made (a.a % 256) (a.b / 256 % 256) (a.c / 65536 % 256) (a.d / 16777216 % 256) a.k
    (mod-lt a.a (lit< tt)) (mod-lt (a.b / 256) (lit< tt)) (mod-lt (a.c / 65536) (lit< tt)) (mod-lt (a.d / 16777216) (lit< tt))
