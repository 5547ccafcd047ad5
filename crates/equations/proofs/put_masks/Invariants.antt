-- `equations::put_masks` meets its contract: before turn l the first l masks are written. Assumes nothing.
use Prim.Native.Nat.{◌+◌, ◌*◌}
use Rattle.equations.specs.Put.{Put}
use Rattle.equations.specs.Lanes.{lane, mask_of}
use Rattle.equations.proofs.put_masks.Given as goal

abbrev pub invariant-loop-l : goal.invariant-loop-l
invariant-loop-l here =
    Put here.initial.vectors here.l (λ l. 192 * here.k + 24 * here.b + l) (λ l. mask_of (lane here.initial.vectors here.k l) here.b) here.vectors
