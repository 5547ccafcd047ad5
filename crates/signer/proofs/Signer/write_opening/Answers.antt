-- `signer::Signer::write_opening` meets its contract. Assumes nothing.
use mathlib.Core.Path.{refl, ◌∙◌}
use Prim.Native.Nat.{◌+◌, ◌*◌}
use native.Mathlib.Omega.{arith}
use Rattle.workspace.specs.Map.{at_sent}
use Rattle.workspace.proofs.Lent.{slice_is, lent}
use Rattle.signer.proofs.Openings.{opening-written}
use Rattle.signer.proofs.Signer.write_opening.Goals as goal

pub returns : goal.returns
returns c =
    let a = c.args in
    let r = c.reveal-c in
    let l = lent (556 + 128 * a.e) (556 + 128 * a.e) 128 refl r.new.path a.sig.now (omega arith) r.auto.path in
    λ m g.
    let v = (rw (c.salt_block-s.ensures, c.solution-x.ensures) at r.ensures) m (c.load-root.ensures ∙ g.roots a.e c.requires) in
    opening-written m _ _ (λ k. a.hidden) a.e a.work.now a.sig.now _ _ _ _ _ _ _ c.requires g l v.path-is v.out-is
    c.put.ensures (slice_is (at_sent + 12 * a.e) 12 a.work.now) c.put-2.ensures
