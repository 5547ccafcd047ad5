-- `shake::squeeze` meets its contract: before each turn so many bytes of the output are written, and j of them are of the state's block.
-- Assumes nothing.
use Rattle.std.proofs.Common.{◌≡◌, ℕ, ◌-◌, ◌/◌, ◌%◌, ◌≤◌, List, length}
use Rattle.octets.proofs.Write.{written}
use Rattle.shake.specs.Shake.{output}
use Rattle.shake.proofs.Output.{after}
use Rattle.shake.proofs.squeeze.Given as goal

pub record Written (out₀ lanes out a : List ℕ) (j i : ℕ) : Type 0 where
  pub room : j ≤ 168
  pub upto : j ≤ i
  pub start : (i - j) % 168 ≡ 0
  pub state : a ≡ after ((i - j) / 168) lanes
  pub wrote : out ≡ written out₀ 0 (output lanes (length out₀)) i

abbrev pub invariant-loop-b : goal.invariant-loop-b
invariant-loop-b l = Written l.initial.out l.initial.a l.out l.a l.j l.b-index
