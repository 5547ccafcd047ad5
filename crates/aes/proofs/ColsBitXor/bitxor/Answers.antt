-- The sum of two blocks is the sum of their bytes. Assumes nothing.
use Rattle.aes.proofs.Rounds.{add-law}
use Rattle.aes.proofs.Words.{bytes-xor}
use Rattle.aes.proofs.ColsBitXor.bitxor.Goals as goal

pub returns : goal.returns
returns c = let s = c.args.self in
    let k = c.args.k in
    add-law s k _ (bytes-xor s.a k.a) (bytes-xor s.b k.b) (bytes-xor s.c k.c) (bytes-xor s.d k.d)
