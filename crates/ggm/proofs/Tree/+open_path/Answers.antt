-- `ggm::Tree::open_path` meets its contract: a sibling behind the path of the half that hides the leaf. The measure is the depth. Assumes nothing.
use Rattle.std.proofs.Common.{sym, ◌∙◌, arith}
use Rattle.aes.specs.Words.{block_of}
use Rattle.aes.proofs.Blocks.{length-block_of}
use Rattle.octets.proofs.Laid.{length-nil}
use Rattle.octets.proofs.Place.{place-whole}
use Rattle.tree.proofs.Depth.{path-zero, path-join-left, path-join-right}
use Rattle.ggm.proofs.HiddenLeaf.{leaf-zero, leaf-join-left, leaf-join-right}
use Rattle.ggm.proofs.Tree.+open_path.Goals as goal

pub returns-then-d-eq0-clause-siblings : goal.returns-then-d-eq0-clause-siblings
returns-then-d-eq0-clause-siblings t c =
    let a = c.args in
    let z = c.if-d-eq0.true in
    length-nil a.path.now (omega arith) ∙ sym (path-zero _ a.d a.j a.hidden (block_of a.s) z)

pub returns-then-d-eq0-clause-leaf : goal.returns-then-d-eq0-clause-leaf
returns-then-d-eq0-clause-leaf t c =
    let a = c.args in
    leaf-zero _ a.d a.j a.hidden (block_of a.s) c.if-d-eq0.true (omega arith)

pub returns-then-hidden-h-clause-siblings : goal.returns-then-hidden-h-clause-siblings
returns-then-hidden-h-clause-siblings t c =
    let a = c.args in
    let k = block_of c.bitxor-r.result in
    let p = c.store.ensures ∙ place-whole _ _ (length-block_of _ ∙ omega arith) in
    path-join-left _ a.d a.j a.hidden _ (block_of a.s) _ k _ _ c.if-d-eq0.false c.half-h.ensures c.if-hidden-h.true c.child-l.ensures c.bitxor-r.ensures
    c.open_path.ensures.siblings p

pub returns-then-hidden-h-clause-leaf : goal.returns-then-hidden-h-clause-leaf
returns-then-hidden-h-clause-leaf t c =
    let a = c.args in
    leaf-join-left _ a.d a.j a.hidden _ (block_of a.s) _ _ c.if-d-eq0.false c.half-h.ensures c.if-hidden-h.true c.child-l.ensures c.open_path.ensures.leaf

pub returns-else-hidden-h-clause-siblings : goal.returns-else-hidden-h-clause-siblings
returns-else-hidden-h-clause-siblings t c =
    let a = c.args in
    let k = block_of c.child-l.result in
    let p = c.store-else-hidden-h.ensures ∙ place-whole _ _ (length-block_of _ ∙ omega arith) in
    path-join-right _ a.d a.j a.hidden _ (block_of a.s) k _ _ _ c.if-d-eq0.false c.half-h.ensures c.if-hidden-h.false c.child-l.ensures c.bitxor-r.ensures
    c.open_path-else-hidden-h.ensures.siblings p

pub returns-else-hidden-h-clause-leaf : goal.returns-else-hidden-h-clause-leaf
returns-else-hidden-h-clause-leaf t c =
    let a = c.args in
    leaf-join-right _ a.d a.j a.hidden _ (block_of a.s) _ _ _ c.if-d-eq0.false c.half-h.ensures c.if-hidden-h.false c.child-l.ensures c.bitxor-r.ensures
    c.open_path-else-hidden-h.ensures.leaf
