-- `signer::Signer::commit_all` meets its contract: before turn e, e repetitions are committed to. Assumes nothing.
use mathlib.Core.List.{List}
use Prim.Native.Nat.{ℕ}
use Rattle.paper.specs.Keys.{solution_of}
use Rattle.signer.specs.State.{Within, Committed}
use Rattle.signer.proofs.Signer.commit_all.Given as goal

abbrev pub invariant-loop-e : goal.invariant-loop-e
invariant-loop-e l = Within 18304 25049 l.initial.work l.work × ((m : List ℕ) → Committed m l.self.salt (solution_of l.self.sk.now) 0 l.initial.work → Committed m l.self.salt (solution_of l.self.sk.now) l.e l.work)
