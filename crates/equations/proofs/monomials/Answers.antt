-- `equations::monomials` meets its contract: before turn j the unknowns and the first j rows are written. Assumes nothing.
use mathlib.Core.Path.{ap}
use mathlib.Core.List.{List}
use Prim.Native.Nat.{ℕ}
use native.Mathlib.Omega.{arith}
use borrow.Author.Rules.{rules}
use lib.ListN.{replicate}
use Rattle.octets.specs.Lists.{vec}
use Rattle.equations.proofs.Put.{put-part}
use Rattle.equations.proofs.Flat.{filled-start, filled-turn, filled-end}
use Rattle.equations.proofs.monomials.Goals as goal

pub loop-j-init : goal.loop-j-init
loop-j-init c = (
  search rules,
  filled-start (vec c.all_lifted-u.result) (replicate 1652 0) _
      (put-part 1596 56 _ _ _ (search rules) (search rules) (λ k h. ap (λ (s : List ℕ). vec s k) c.copy_from_slice.ensures.after)),
)

pub loop-j-preserved : goal.loop-j-preserved
loop-j-preserved c =
    let l = c.loop-j in
    (search rules, filled-turn _ l.j l.w _ (omega arith) l.invariant.1 c.put_row.ensures)

pub returns : goal.returns
returns c =
    let l = c.loop-j in
    filled-end _ _ l.w l.j (omega arith) c.all_lifted-u.ensures l.invariant.1
