-- `equations::at_points` meets its contract: before turn j the value's part and the first j rows are added. Assumes nothing.
use native.Mathlib.Omega.{arith}
use Rattle.equations.proofs.Evals.{of_value, eval-start, eval-turn, eval-end}
use Rattle.equations.proofs.at_points.Goals as goal

pub loop-j-init : goal.loop-j-init
loop-j-init c =
    let s = c.args in
    λ v h. eval-start s.q.now v _ _ s.y (c.scaled-u.ensures v h) (c.add_product.ensures v h)

pub loop-j-preserved : goal.loop-j-preserved
loop-j-preserved c =
    let s = c.args in
    let l = c.loop-j in
    λ v h.
    eval-turn s.q.now v (of_value s.q.now v s.y) l.z _ _ l.j (l.invariant v h) (c.row_value.ensures v h) (c.add_product-in-loop-j.ensures v h)

pub returns : goal.returns
returns c =
    let s = c.args in
    let l = c.loop-j in
    λ v h. eval-end s.q.now v l.z s.y l.j (omega arith) (l.invariant v h)
