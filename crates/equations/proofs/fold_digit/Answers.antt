-- `equations::fold_digit` meets its contract: before turn l the first l lanes are the new ones. Assumes nothing.
use mathlib.Core.Path.{ap, ◌∙◌}
use Prim.Native.Nat.{◌+◌, ◌*◌}
use native.Mathlib.Omega.{arith}
use lib.ListN.{length-set}
use Rattle.octets.specs.Xor.{◌⊕◌}
use Rattle.octets.specs.Lists.{vec}
use Rattle.octets.proofs.Xor.{xor-is-⊕}
use Rattle.field.specs.Gf.{times_root}
use Rattle.equations.proofs.Put.{put-read, put-turn, put_all}
use Rattle.equations.proofs.fold_digit.Goals as goal

pub loop-l-preserved : goal.loop-l-preserved
loop-l-preserved c =
    let l = c.loop-l in
    let s = c.args in
    let kept = put-read _ _ _ l.l l.r l.invariant.1 (λ k h q. omega arith) in
    let e = xor-is-⊕ _ _ ∙ ap (◌⊕ vec s.a.now (24 * s.b + l.l)) (c.times_root.ensures ∙ ap (times_root 7 0x1b) kept) in
    (simp length-set l.invariant.0, put-turn _ _ _ l.l l.r l.invariant.1 (λ k h q. omega arith) _ (omega arith) e)

pub returns : goal.returns
returns c =
    let l = c.loop-l in
    put_all _ 24 l.l _ l.r l.invariant.0 (omega arith) l.invariant.1
