-- `expansion::fill` meets its contract: before turn i the first i blocks stand in q. Assumes nothing.
use mathlib.Core.Path.{refl, ap, ◌∙◌}
use native.Mathlib.Omega.{arith}
use lib.ListN.{length}
use Rattle.octets.proofs.Frame.{part_none}
use Rattle.aes.specs.Words.{block_of}
use Rattle.equations.proofs.Blocks.{blocks-turn, blocks_end, first_word}
use Rattle.octets.specs.Lists.{bytes_of}
use Rattle.octets.proofs.Part.{length-bytes_of}
use Rattle.octets.proofs.Place.{length-place}
use Rattle.aes.proofs.Blocks.{length-block_of}
use Rattle.equations.proofs.expansion.fill.Goals as goal

pub loop-i-init : goal.loop-i-init
loop-i-init c = (refl, part_none 0 16 _ _)

pub loop-i-preserved : goal.loop-i-preserved
loop-i-preserved c =
    let l = c.loop-i in
    let s = c.args.s in
    let y = c.block-y in
    let e = c.store.ensures in (
      ap length e ∙ length-place _ _ _ ∙ l.invariant.0,
      blocks-turn (block_of s) (length-block_of s) l.q (block_of y.result) l.i (omega arith) l.invariant.0 l.invariant.1 y.ensures e,
    )

pub returns : goal.returns
returns c =
    let l = c.loop-i in
    let s = c.args.s in
    let y = c.block-y-2 in
    blocks_end (block_of s) (length-block_of s) l.q (block_of y.result) (bytes_of 4 y.result.a) l.i (omega arith) l.invariant.0 l.invariant.1
    y.ensures (first_word y.result) (length-bytes_of 4 y.result.a) c.store_word.ensures
