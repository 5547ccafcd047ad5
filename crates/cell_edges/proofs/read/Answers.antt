-- `cell_edges::read` meets its contract: the only answer is that of the case. Assumes nothing.
use mathlib.Core.Path.{refl, ◌∙◌}
use borrow.Author.Tests.{eq-eqb}
use lib.ListN.{replicate, length-set}
use Rattle.cells.proofs.Answers.{read-0, read-unique}
use Rattle.cell_edges.specs.Edges.{but}
use Rattle.cell_edges.proofs.Edges.{told}
use Rattle.cell_edges.proofs.read.Goals as goal

pub expect-requires : goal.expect-requires
unfolding but
expect-requires c =
    eq-eqb _ 0 (c.number-r.ensures ∙ (read-unique c.read_cell.ensures (read-0 refl (length-set (replicate 120 48) c.args.i c.args.c) c.requires.hex refl)).0)

pub expect-requires-2 : goal.expect-requires-2
unfolding but
expect-requires-2 c =
    let u = read-unique c.read_cell.ensures (read-0 refl (length-set (replicate 120 48) c.args.i c.args.c) c.requires.hex refl) in
    told c.eq.ensures (u.1 ∙ c.requires.bytes)
