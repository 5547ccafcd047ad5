-- `lines::eval` meets its contract. Assumes nothing.
use Rattle.std.proofs.Common.{◌≡◌, length, rules}
use Rattle.aes.specs.Words.{block_of}
use Rattle.lines.proofs.Hashed.{hashed-hidden}
use Rattle.lines.proofs.Checker.{evaluated}
use Rattle.lines.proofs.eval.Goals as goal

pub returns : goal.returns
returns c =
    let a = c.args in
    let k = c.write_tree_keys in
    let l = c.rebuild_tree.new.buf in
    let f = c.fold_leaves-f in
    let lk : length k.new.out ≡ 2112 = search rules in
    let ll : length l ≡ 4096 = search rules in
    let lf : length f.result ≡ 504 = search rules in
    let h = hashed-hidden k.new.out l a.hidden a.out.now _ _ lk ll (search rules) c.requires.2 c.commit_leaves.ensures c.put.ensures in
    λ paths outs sents pf of sf.
    evaluated (block_of a.salt) paths outs sents a.e a.hidden k.new.out k.ensures a.path.now a.out.now a.sent.now c.requires.1 c.requires.3 pf of sf
    l c.put.new.out _ f.result ll c.rebuild_tree.ensures lf f.ensures h c.hash32-h.ensures _ _ c.point.ensures c.at_point.ensures
