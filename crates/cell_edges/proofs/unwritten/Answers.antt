-- `cell_edges::unwritten` meets its contract: the number is 1, and the output is what it was. Assumes nothing.
use lib.ListN.{replicate}
use Rattle.cell_edges.proofs.Edges.{told, write_kept}
use Rattle.cell_edges.proofs.unwritten.Goals as goal

pub expect-requires-2 : goal.expect-requires-2
expect-requires-2 c =
    told c.eq.ensures
    (write_kept c.args.k (replicate 61 0) c.requires.key_fits c.args.m (replicate 121 0xaa) c.requires.out-fits c.write_cell.ensures c.requires.refused)
