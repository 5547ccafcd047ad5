-- `ggm::Tree::expand` meets its contract: what its two calls of itself write are the two halves. The measure is the depth. Assumes nothing.
use Rattle.std.proofs.Common.{sym, ◌∙◌, arith}
use Rattle.aes.specs.Words.{block_of}
use Rattle.aes.proofs.Blocks.{length-block_of}
use Rattle.octets.proofs.Place.{place-whole}
use Rattle.tree.proofs.Powers.{two-zero}
use Rattle.tree.proofs.Depth.{leaves-zero, leaves-join}
use Rattle.ggm.proofs.Tree.+expand.Goals as goal

pub returns-then-d-eq0 : goal.returns-then-d-eq0
returns-then-d-eq0 t c =
    let a = c.args in
    let z = c.if-d-eq0.true in
    let p = two-zero z in
    c.store.ensures ∙ place-whole (block_of a.s) a.buf.now (length-block_of a.s ∙ omega arith) ∙ sym (leaves-zero _ a.d a.j (block_of a.s) z)

pub returns-else-d-eq0 : goal.returns-else-d-eq0
returns-else-d-eq0 t c =
    let a = c.args in
    leaves-join _ a.d a.j (block_of a.s) _ _ _ _ c.if-d-eq0.false c.child-l.ensures c.bitxor-r.ensures c.expand.ensures c.expand-else-d-eq0.ensures
