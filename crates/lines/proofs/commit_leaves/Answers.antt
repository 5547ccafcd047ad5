-- `lines::commit_leaves` meets its contract. Assumes nothing.
use Rattle.std.proofs.Common.{sym, ap, ◌∙◌, arith}
use Rattle.octets.specs.Lists.{joined}
use Rattle.octets.proofs.Place.{place_none}
use Rattle.lines.specs.Standing.{com_by, leaf_at}
use Rattle.lines.proofs.Hashed.{hashed-turn, hashed-end}
use Rattle.lines.proofs.commit_leaves.Goals as goal

pub loop-i-init : goal.loop-i-init
unfolding joined
loop-i-init c = sym (place_none 1 _)

pub loop-i-preserved : goal.loop-i-preserved
unfolding leaf_at
loop-i-preserved c =
    let a = c.args in
    hashed-turn a.tree.now.keys.now a.leaves.now a.tree.now.keys_len (omega arith) c.loop-i.i _ _ _ _ (omega arith)
    (c.commitment-c.ensures ∙ ap (com_by a.tree.now.keys.now) c.load-s.ensures) c.put.ensures c.loop-i.invariant

pub returns : goal.returns
returns c =
    let a = c.args in
    hashed-end a.tree.now.keys.now a.leaves.now a.tree.now.keys_len (omega arith) c.loop-i.i _ _ a.hashed.now
    (omega arith) (omega arith) (omega arith) c.selector.ensures c.loop-i.invariant
