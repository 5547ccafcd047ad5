-- `lines::commit_leaves` meets its contract. Assumes nothing.
use Rattle.std.proofs.Common.{◌≡◌}
use Rattle.octets.specs.Lists.{joined}
use Rattle.octets.specs.Place.{place}
use Rattle.lines.specs.Standing.{coms_by}
use Rattle.lines.proofs.commit_leaves.Given as goal

abbrev pub invariant-loop-i : goal.invariant-loop-i
invariant-loop-i l = l.hashed ≡ place 1 (joined l.i (coms_by l.tree.keys.now l.leaves)) l.initial.hashed
