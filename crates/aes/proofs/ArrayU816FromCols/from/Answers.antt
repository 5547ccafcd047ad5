-- A block as sixteen bytes. Assumes nothing.
use Rattle.std.proofs.Common.{◌∙◌}
use Rattle.octets.proofs.Place.{place-whole}
use Rattle.aes.specs.Words.{block_of}
use Rattle.aes.proofs.Blocks.{length-block_of}
use Rattle.aes.proofs.ArrayU816FromCols.from.Goals as goal

pub returns : goal.returns
returns c = let k = c.args.k in
    c.store.ensures ∙ place-whole (block_of k) _ (length-block_of k)
