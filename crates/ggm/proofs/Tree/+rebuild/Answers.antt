-- `ggm::Tree::rebuild` meets its contract: one half is rebuilt, the other expanded from the path. The measure is the depth. Assumes nothing.
use Rattle.std.proofs.Common.{◌≡◌, length, sym, ap, ◌∙◌, arith, replicate}
use Rattle.tree.proofs.Powers.{two-zero}
use Rattle.tree.proofs.Depth.{rebuild-zero, rebuild-join-left, rebuild-join-right}
use Rattle.ggm.proofs.Tree.+rebuild.Goals as goal

pub returns-then-d-eq0 : goal.returns-then-d-eq0
returns-then-d-eq0 t c =
    let a = c.args in
    let z = c.if-d-eq0.true in
    let p = two-zero z in
    let e : length a.buf.now ≡ 16 = omega arith in
    c.fill.ensures.after (λ y e. e) ∙ ap (λ n. replicate n 0) e ∙ sym (rebuild-zero _ a.d a.j a.hidden a.path.now z)

pub returns-then-hidden-h : goal.returns-then-hidden-h
returns-then-hidden-h t c =
    let a = c.args in
    rebuild-join-left _ a.d a.j a.hidden _ a.path.now _ _ _ c.if-d-eq0.false c.half-h.ensures c.if-hidden-h.true c.load-s.ensures
    c.rebuild.ensures c.expand.ensures

pub returns-else-hidden-h : goal.returns-else-hidden-h
returns-else-hidden-h t c =
    let a = c.args in
    rebuild-join-right _ a.d a.j a.hidden _ a.path.now _ _ _ c.if-d-eq0.false c.half-h.ensures c.if-hidden-h.false c.load-s.ensures
    c.expand-else-hidden-h.ensures c.rebuild-else-hidden-h.ensures
