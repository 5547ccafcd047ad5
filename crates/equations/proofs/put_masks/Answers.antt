-- `equations::put_masks` meets its contract: before turn l the first l masks are written. Assumes nothing.
use mathlib.Core.Path.{◌≡◌, ap}
use Prim.Native.Nat.{ℕ, ◌*◌, ◌/◌, ◌%◌, ◌^◌}
use native.Mathlib.Omega.{arith}
use Rattle.equations.proofs.Put.{put-turn, put-end}
use Rattle.equations.specs.Lanes.{lane, mask_of}
use Rattle.equations.proofs.put_masks.Goals as goal

pub loop-l-preserved : goal.loop-l-preserved
unfolding mask_of
loop-l-preserved c =
    let l = c.loop-l in
    let s = c.args in
    let kept : lane l.vectors s.k l.l ≡ lane s.vectors.now s.k l.l = l.invariant.others _ (λ k h q. omega arith) in
    let e = ap (λ (x : ℕ). x / 2 ^ s.b % 2 * 255) kept in
    put-turn _ _ _ l.l l.vectors l.invariant (λ k h q. omega arith) _ (omega arith) e

pub returns : goal.returns
returns c =
    let l = c.loop-l in
    put-end _ l.l _ _ _ l.vectors (omega arith) (omega arith) l.invariant
