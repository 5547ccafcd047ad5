-- `shake::Sponge::absorb` meets its contract: before each turn all but the rest of the text is fed. Assumes nothing.
use Rattle.std.proofs.Common.{◌≡◌, ℕ, ◌<◌, List, ◌++◌, length}
use Rattle.shake.specs.Held.{sponge, fed}
use Rattle.shake.proofs.Blocks.{Reached}
use Rattle.shake.proofs.Sponge.absorb.Given as goal

pub record Fed (a₀ : List ℕ) (at₀ : ℕ) (text a : List ℕ) (at : ℕ) (rest : List ℕ) : Type 0 where
  pub below : at < 168
  pub held : (m : List ℕ) → sponge a₀ at₀ ≡ fed m → Reached (sponge a at) rest (m ++ text)

abbrev pub invariant-loop-rest : goal.invariant-loop-rest
invariant-loop-rest l = Fed l.initial.a l.initial.at l.text l.a l.at l.rest

abbrev pub decreases-loop-rest : goal.decreases-loop-rest
decreases-loop-rest l = length l.rest
