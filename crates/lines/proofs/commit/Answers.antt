-- `lines::commit` meets its contract. Assumes nothing.
use Rattle.std.proofs.Common.{◌≡◌, length, arith, rules}
use Rattle.aes.specs.Words.{block_of}
use Rattle.aes.proofs.Blocks.{length-block_of}
use Rattle.lines.proofs.Signer.{committed}
use Rattle.lines.proofs.commit.Goals as goal

pub returns : goal.returns
returns c =
    let a = c.args in
    let k = c.write_tree_keys in
    let f = c.fold_leaves-f in
    let ll : length c.expand_tree.new.buf ≡ 4096 = search rules in
    let lf : length f.result ≡ 504 = search rules in
    λ mseed from.
    committed mseed (block_of a.salt) a.x.now a.e k.new.out k.ensures (block_of a.r) (block_of c.load-d.result)
    (length-block_of a.r) (omega arith) from c.load-d.ensures
    c.expand_tree.new.buf c.commit_leaves.new.hashed _ f.result ll c.expand_tree.ensures lf f.ensures
    c.commit_leaves.ensures c.hash32-h.ensures _ c.of_folded.ensures
