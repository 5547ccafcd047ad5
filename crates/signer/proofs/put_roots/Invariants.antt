-- `signer::put_roots` meets its contract: before turn e the first e root seeds stand. Assumes nothing.
use mathlib.Core.Path.{◌≡◌}
use Rattle.octets.specs.Lists.{joined}
use Rattle.octets.specs.Place.{place}
use Rattle.aes.specs.Words.{block_of}
use Rattle.paper.specs.Commit.{rseed}
use Rattle.workspace.specs.Map.{at_roots}
use Rattle.signer.proofs.put_roots.Given as goal

abbrev pub invariant-loop-e : goal.invariant-loop-e
invariant-loop-e l = l.work ≡ place at_roots (joined l.e (rseed (block_of l.m))) l.initial.work
