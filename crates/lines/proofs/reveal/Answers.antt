-- `lines::reveal` meets its contract. Assumes nothing.
use Rattle.std.proofs.Common.{arith}
use Rattle.aes.specs.Words.{block_of}
use Rattle.aes.proofs.Blocks.{length-block_of}
use Rattle.lines.proofs.Signer.{revealed}
use Rattle.lines.proofs.reveal.Goals as goal

pub returns : goal.returns
returns c =
    let a = c.args in
    let k = c.write_tree_keys in
    let o = c.open_tree-s in
    λ mseed from. revealed mseed (block_of a.salt) a.x.now a.e k.new.out k.ensures (block_of a.r) _ (length-block_of a.r) (omega arith) from c.load-d.ensures
    a.hidden _ (block_of o.result) _ o.ensures.siblings o.ensures.leaf c.commitment.ensures
