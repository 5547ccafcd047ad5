-- `ggm::Tree::open_tree` meets its contract. Assumes nothing.
use Rattle.std.proofs.Common.{refl, ◌∙◌, arith}
use Rattle.aes.specs.Words.{block_of}
use Rattle.aes.proofs.Blocks.{length-block_of}
use Rattle.octets.proofs.Place.{place-whole}
use Rattle.tree.proofs.Depth.{tree-path-left, tree-path-right}
use Rattle.ggm.proofs.HiddenLeaf.{tree-leaf-left, tree-leaf-right}
use Rattle.ggm.proofs.Tree.open_tree.Goals as goal

pub returns-then-hidden-lt128-clause-siblings : goal.returns-then-hidden-lt128-clause-siblings
returns-then-hidden-lt128-clause-siblings c =
    let a = c.args in
    let k = block_of c.bitxor-o.result in
    let p = c.store.ensures ∙ place-whole k _ (length-block_of c.bitxor-o.result ∙ omega arith) in
    tree-path-left _ 7 a.hidden 128 (block_of a.r) (block_of a.delta) k _ _ refl c.if-hidden-lt128.true c.bitxor-o.ensures c.open_path.ensures.siblings p

pub returns-then-hidden-lt128-clause-leaf : goal.returns-then-hidden-lt128-clause-leaf
returns-then-hidden-lt128-clause-leaf c =
    let a = c.args in
    tree-leaf-left _ 7 a.hidden 128 (block_of a.r) (block_of a.delta) _ refl c.if-hidden-lt128.true c.open_path.ensures.leaf

pub returns-else-hidden-lt128-clause-siblings : goal.returns-else-hidden-lt128-clause-siblings
returns-else-hidden-lt128-clause-siblings c =
    let a = c.args in
    let p = c.store-else-hidden-lt128.ensures ∙ place-whole (block_of a.r) _ (length-block_of a.r ∙ omega arith) in
    tree-path-right _ 7 a.hidden 128 (block_of a.r) (block_of a.delta) _ _ _ refl c.if-hidden-lt128.false c.bitxor-o.ensures
    c.open_path-else-hidden-lt128.ensures.siblings p

pub returns-else-hidden-lt128-clause-leaf : goal.returns-else-hidden-lt128-clause-leaf
returns-else-hidden-lt128-clause-leaf c =
    let a = c.args in
    tree-leaf-right _ 7 a.hidden 128 (block_of a.r) (block_of a.delta) _ _ refl c.if-hidden-lt128.false c.bitxor-o.ensures
    c.open_path-else-hidden-lt128.ensures.leaf
