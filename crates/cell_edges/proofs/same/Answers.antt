-- `cell_edges::same` meets its contract. Assumes nothing.
use mathlib.Core.Path.{◌∙◌}
use Rattle.cell_edges.specs.Edges.{but}
use Rattle.cell_edges.proofs.Edges.{beq-of}
use Rattle.cell_edges.proofs.same.Goals as goal

pub expect-requires : goal.expect-requires
unfolding but
expect-requires c = beq-of _ _ (c.same_signer.ensures ∙ c.requires.answered)
