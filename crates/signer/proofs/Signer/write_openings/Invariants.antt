-- `signer::Signer::write_openings` meets its contract: before turn e, e openings are written. Assumes nothing.
use mathlib.Core.Path.{◌≡◌}
use mathlib.Core.List.{List}
use Prim.Native.Nat.{ℕ}
use Rattle.paper.specs.Keys.{solution_of}
use Rattle.paper.specs.Challenge.{hidden_in}
use Rattle.signer.specs.Written.{Openable, openings}
use Rattle.signer.proofs.Signer.write_openings.Given as goal

abbrev pub invariant-loop-e : goal.invariant-loop-e
invariant-loop-e l = (m : List ℕ) → Openable m l.self.salt (solution_of l.self.sk.now) l.work → l.sig ≡ openings m l.self.salt (solution_of l.self.sk.now) (hidden_in l.c) l.e l.initial.sig
