-- `equations::fold_digit` meets its contract: before turn l the first l lanes are the new ones. Assumes nothing.
use mathlib.Core.Path.{◌≡◌}
use Prim.Native.Nat.{◌+◌, ◌*◌}
use lib.ListN.{length}
use Rattle.octets.specs.Xor.{◌⊕◌}
use Rattle.octets.specs.Lists.{vec}
use Rattle.field.specs.Gf.{times_root}
use Rattle.equations.specs.Put.{Put}
use Rattle.equations.proofs.fold_digit.Given as goal

abbrev pub invariant-loop-l : goal.invariant-loop-l
invariant-loop-l here =
    (length here.r ≡ 24)
    × Put here.initial.r here.l (λ i. i) (λ l. times_root 7 0x1b (vec here.initial.r l) ⊕ vec here.a (24 * here.b + l)) here.r
