-- `equations::put_row` meets its contract: before turn i the first i products are written. Assumes nothing.
use Prim.Native.Nat.{◌+◌}
use Rattle.octets.specs.Lists.{vec}
use Rattle.field.specs.Gf.{◌⊗◌}
use Rattle.equations.specs.Put.{Put}
use Rattle.equations.proofs.put_row.Given as goal

abbrev pub invariant-loop-i : goal.invariant-loop-i
invariant-loop-i l = Put l.initial.w l.i (λ k. l.row + k) (λ k. vec l.x k ⊗ vec l.x l.j) l.w
