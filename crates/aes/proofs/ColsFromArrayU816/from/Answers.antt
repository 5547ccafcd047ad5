-- Sixteen bytes as a block. Assumes nothing.
use Rattle.std.proofs.Common.{◌≡◌, ◌∙◌, arith, length}
use Rattle.octets.proofs.Part.{part-all}
use Rattle.aes.proofs.ColsFromArrayU816.from.Goals as goal

pub returns : goal.returns
returns c = let l : length c.args.x ≡ 16 = omega arith in
    c.load.ensures ∙ part-all 16 c.args.x l
