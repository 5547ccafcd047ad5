-- `ggm::Tree::expand_tree` meets its contract. Assumes nothing.
use Rattle.aes.specs.Words.{block_of}
use Rattle.tree.proofs.Depth.{tree-join}
use Rattle.ggm.proofs.Tree.expand_tree.Goals as goal

pub returns : goal.returns
returns c = tree-join _ 7 (block_of c.args.r) (block_of c.args.delta) _ _ _ c.bitxor-o.ensures c.expand.ensures c.expand-2.ensures
