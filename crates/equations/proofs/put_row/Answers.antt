-- `equations::put_row` meets its contract: before turn i the first i products are written. Assumes nothing.
use mathlib.Core.Path.{subst, ◌∙◌}
use Prim.Native.Nat.{ℕ, suc, ◌+◌}
use native.Mathlib.Omega.{arith}
use Rattle.octets.specs.Lists.{vec}
use Rattle.field.specs.Gf.{◌⊗◌}
use Rattle.equations.specs.Put.{Put}
use Rattle.equations.proofs.Put.{put-turn, put-end}
use Rattle.field.proofs.Field.{⊗-comm}
use Rattle.equations.proofs.Flat.{row_room}
use Rattle.equations.proofs.put_row.Goals as goal

pub overflow_add-w : goal.overflow_add-w
overflow_add-w c = omega (arith, row_room c.args.j (omega arith))

pub bounds-w-row : goal.bounds-w-row
bounds-w-row c = omega (arith, row_room c.args.j (omega arith))

pub loop-i-preserved : goal.loop-i-preserved
loop-i-preserved c =
    let l = c.loop-i in
    let r = row_room c.args.j (omega arith) in
    let e = c.mul.ensures ∙ ⊗-comm _ _ in
    put-turn _ _ _ l.i l.w l.invariant (λ k h q. omega arith) _ (omega arith) e

pub returns : goal.returns
returns c =
    let l = c.loop-i in
    subst (λ (r : ℕ). Put c.args.w.now (suc c.args.j) (λ k. r + k) (λ k. vec c.args.x k ⊗ vec c.args.x c.args.j) l.w) c.row_start-row.ensures
    (put-end _ l.i _ _ _ l.w (omega arith) (omega arith) l.invariant)
