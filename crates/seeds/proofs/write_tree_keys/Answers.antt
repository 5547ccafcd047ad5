-- `seeds::write_tree_keys` meets its contract: before turn k the first k keys stand. Assumes nothing.
use mathlib.Core.Path.{refl}
use native.Mathlib.Omega.{arith}
use Rattle.aes.specs.Words.{block_of}
use Rattle.seeds.specs.Expanded.{tree_key, tree_keys}
use Rattle.seeds.proofs.Keys.{length-tree_key, keys_none, keys-turn, keys-all}
use Rattle.seeds.proofs.write_tree_keys.Goals as goal

pub loop-k-init : goal.loop-k-init
loop-k-init c = (omega arith, keys_none _ _)

pub loop-k-preserved : goal.loop-k-preserved
loop-k-preserved c =
    let l = c.loop-k in
    (omega arith, keys-turn (tree_key (block_of c.args.salt) c.args.e) 12 l.k _ l.out c.put_tree_key.ensures refl (length-tree_key _ _ _) (omega arith) (omega arith) l.invariant.1)

pub returns : goal.returns
unfolding tree_keys
returns c =
    let l = c.loop-k in
    keys-all (tree_key (block_of c.args.salt) c.args.e) 12 l.k l.out (omega arith) (omega arith) (omega arith) l.invariant.1
