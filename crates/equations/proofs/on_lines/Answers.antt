-- `equations::on_lines` meets its contract: before turn j the first j rows are added. Assumes nothing.
use native.Mathlib.Omega.{arith}
use Rattle.equations.proofs.Rows.{sofar-zeros}
use Rattle.equations.proofs.Evals.{of_row, of_cross, eval-turn, cross-turn, lines_end}
use Rattle.equations.proofs.on_lines.Goals as goal

pub loop-j-init : goal.loop-j-init
loop-j-init c =
    let s = c.args in (
      λ v h. sofar-zeros 24 (of_row s.q.now v),
      λ v h. sofar-zeros 24 (of_cross s.q.now v),
    )

pub loop-j-preserved : goal.loop-j-preserved
loop-j-preserved c =
    let s = c.args in
    let l = c.loop-j in (
      λ v h.
          eval-turn s.q.now v (λ l. 0) l.z0 _ _ l.j (l.invariant.0 v h)
          (c.row_value-t.ensures v h) (c.add_product.ensures v h),
      λ v h.
          cross-turn s.q.now v (λ l. 0) l.z1 _ _ l.j (l.invariant.1 v h)
          (c.row_value-t.ensures v h) (c.add_cross.ensures v h),
    )

pub returns : goal.returns
returns c =
    let s = c.args in
    let l = c.loop-j in
    λ v h. lines_end s.q.now v l.z0 l.z1 l.j (omega arith) (l.invariant.0 v h) (l.invariant.1 v h)
