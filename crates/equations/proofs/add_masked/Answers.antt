-- `equations::add_masked` meets its contract: before turn i the first i bytes are the new ones. Assumes nothing.
use mathlib.Core.Path.{refl}
use native.Mathlib.Omega.{arith}
use lib.ListN.{length-set}
use Rattle.equations.proofs.Put.{put-add, put_all}
use Rattle.equations.proofs.add_masked.Goals as goal

pub loop-i-preserved : goal.loop-i-preserved
loop-i-preserved c =
    let l = c.loop-i in
    (simp length-set l.invariant.0, put-add _ _ _ l.i l.t l.invariant.1 (λ k h e. omega arith) _ (omega arith) refl)

pub returns : goal.returns
returns c =
    let l = c.loop-i in
    put_all _ 192 l.i _ l.t l.invariant.0 (omega arith) l.invariant.1
