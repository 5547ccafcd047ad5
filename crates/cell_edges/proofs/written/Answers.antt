-- `cell_edges::written` meets its contract: the only answer is that of the case. Assumes nothing.
use mathlib.Core.Path.{refl, ◌∙◌}
use borrow.Author.Tests.{eq-eqb}
use lib.ListN.{replicate, length-set}
use Rattle.cells.proofs.Answers.{write-0, write-unique}
use Rattle.cell_edges.specs.Edges.{but}
use Rattle.cell_edges.proofs.Edges.{told}
use Rattle.cell_edges.proofs.written.Goals as goal

pub expect-requires : goal.expect-requires
unfolding but
expect-requires c =
    eq-eqb _ 0 (c.number-r.ensures ∙ (write-unique c.write_cell.ensures (write-0 (length-set (replicate 60 0) c.args.i c.args.b) refl refl)).0)

pub expect-requires-2 : goal.expect-requires-2
unfolding but
expect-requires-2 c =
    let u = write-unique c.write_cell.ensures (write-0 (length-set (replicate 60 0) c.args.i c.args.b) refl refl) in
    told c.eq.ensures (u.1 ∙ c.requires.text)
