-- `cell_edges::refused` meets its contract: the number is that of the case, and the output is what it was. Assumes nothing.
use mathlib.Core.Path.{◌∙◌}
use borrow.Author.Tests.{eq-eqb}
use lib.ListN.{replicate}
use Rattle.cell_edges.specs.Edges.{but}
use Rattle.cell_edges.proofs.Edges.{told, read-number, read_kept}
use Rattle.cell_edges.proofs.refused.Goals as goal

pub expect-requires : goal.expect-requires
unfolding but
expect-requires c = eq-eqb _ _ (c.number-r.ensures ∙ read-number c.args.m (replicate 61 0xaa) c.requires.out-fits c.read_cell.ensures c.requires.refused)

pub expect-requires-2 : goal.expect-requires-2
unfolding but
expect-requires-2 c =
    told c.eq.ensures
    (read_kept c.args.m (replicate 61 0xaa) c.requires.out-fits c.read_cell.ensures c.requires.refused c.requires.refusal)
