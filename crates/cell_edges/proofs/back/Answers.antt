-- `cell_edges::back` meets its contract, by the round trip. Assumes nothing.
use mathlib.Core.Path.{refl, ◌∙◌}
use native.Mathlib.Omega.{arith}
use borrow.Author.Tests.{eq-eqb}
use lib.ListN.{replicate, length-set}
use Rattle.cells.proofs.Cell.{write-gives-0, round_trip}
use Rattle.octets.proofs.Bounds.{bytes-set, bytes-replicate}
use Rattle.cell_edges.proofs.Edges.{told}
use Rattle.cell_edges.proofs.back.Goals as goal

pub expect-requires : goal.expect-requires
expect-requires c =
    let a = c.args in
    eq-eqb _ 0 (c.number.ensures ∙ (write-gives-0 c.write_cell.ensures).1 (length-set (replicate 60 a.a) a.i a.b, refl))

pub expect-requires-2 : goal.expect-requires-2
expect-requires-2 c =
    let a = c.args in
    let f = bytes-set (replicate 60 a.a) a.i a.b (bytes-replicate 60 a.a (omega arith)) (omega arith) in
    eq-eqb _ 0 (c.number-2.ensures ∙ (round_trip f (length-set (replicate 60 a.a) a.i a.b) refl refl c.write_cell.ensures c.read_cell.ensures).1)

pub expect-requires-3 : goal.expect-requires-3
expect-requires-3 c =
    let a = c.args in
    let f = bytes-set (replicate 60 a.a) a.i a.b (bytes-replicate 60 a.a (omega arith)) (omega arith) in
    told c.eq.ensures (round_trip f (length-set (replicate 60 a.a) a.i a.b) refl refl c.write_cell.ensures c.read_cell.ensures).2
