-- `equations::put_lane` meets its contract: before turn k the first k vectors have their lane. Assumes nothing.
use Prim.Native.Nat.{◌+◌, ◌*◌}
use Rattle.octets.specs.Lists.{vec}
use Rattle.equations.specs.Put.{Put}
use Rattle.equations.proofs.put_lane.Given as goal

abbrev pub invariant-loop-k : goal.invariant-loop-k
invariant-loop-k l = Put l.initial.vectors l.k (λ k. 192 * k + l.e) (vec l.x) l.vectors
