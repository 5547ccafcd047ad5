-- `signer::put_roots` meets its contract: before turn e the first e root seeds stand. Assumes nothing.
use Rattle.std.proofs.Common.{arith, ap, ◌∙◌}
use Rattle.octets.specs.Lists.{part, joined}
use Rattle.octets.proofs.Frame.{part-before}
use Rattle.aes.specs.Words.{block_of}
use Rattle.aes.proofs.Blocks.{length-block_of}
use Rattle.paper.specs.Commit.{rseed}
use Rattle.workspace.specs.Map.{at_roots}
use Rattle.signer.proofs.Roots.{roots-turn, roots-none}
use Rattle.signer.proofs.put_roots.Goals as goal

pub loop-e-init : goal.loop-e-init
loop-e-init c = roots-none (block_of c.args.m) c.args.work.now

pub put_root-requires : goal.put_root-requires
put_root-requires c =
    let l = c.loop-e in
    let w = c.args.work.now in (
      ap (part 0 18304) l.invariant ∙ part-before 0 18304 at_roots (joined l.e (rseed (block_of c.args.m))) w (omega arith) (omega arith) ∙ c.requires,
      omega arith,
    )

pub loop-e-preserved : goal.loop-e-preserved
loop-e-preserved c =
    let l = c.loop-e in
    let a = c.args in
    roots-turn (block_of a.m) (length-block_of a.m) l.e a.work.now l.work _ (omega arith) l.invariant c.put_root.ensures
