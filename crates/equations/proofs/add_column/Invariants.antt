-- `equations::add_column` meets its contract: before turn e the first e rows have their element. Assumes nothing.
use Prim.Native.Nat.{◌+◌, ◌*◌}
use Rattle.octets.specs.Xor.{◌⊕◌}
use Rattle.octets.specs.Lists.{vec}
use Rattle.equations.specs.Put.{Put}
use Rattle.equations.proofs.add_column.Given as goal

abbrev pub invariant-loop-e : goal.invariant-loop-e
invariant-loop-e l = Put l.initial.out l.e (λ e. 28 * e + l.i) (λ e. vec l.initial.out (28 * e + l.i) ⊕ vec l.r e) l.out
