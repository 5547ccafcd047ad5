-- `equations::row_value` meets its contract: before turn k the first k terms of the row are added. Assumes nothing.
use mathlib.Core.Path.{◌∙◌}
use native.Mathlib.Omega.{arith}
use Rattle.equations.proofs.Flat.{row_room}
use Rattle.equations.proofs.Evals.{row_first, row_more, row_is}
use Rattle.equations.proofs.row_value.Goals as goal

pub loop-k-init : goal.loop-k-init
loop-k-init c =
    let s = c.args in
    row_first s.m.now s.q.now c.row_start-row.result s.j _ c.add_masked.ensures

pub overflow_add-row : goal.overflow_add-row
overflow_add-row c =
    let r = row_room c.args.j (omega arith) in
    omega arith

pub bounds-q-row : goal.bounds-q-row
bounds-q-row c =
    let r = row_room c.args.j (omega arith) in
    omega arith

pub loop-k-preserved : goal.loop-k-preserved
loop-k-preserved c =
    let s = c.args in
    let l = c.loop-k in
    row_more s.m.now s.q.now c.row_start-row.result s.j l.a _ l.k l.invariant c.add_masked-in-loop-k.ensures

pub returns : goal.returns
returns c =
    let s = c.args in
    let l = c.loop-k in
    λ v h. c.fold.ensures ∙ row_is s.m.now v h s.q.now l.a c.row_start-row.result s.j l.k (omega arith) c.row_start-row.ensures (omega arith) l.invariant
