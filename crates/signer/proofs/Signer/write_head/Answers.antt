-- `signer::Signer::write_head` meets its contract. Assumes nothing.
use Rattle.std.proofs.Common.{arith, ℕ, List, ◌++◌, ap, ◌∙◌}
use Rattle.octets.specs.Place.{place}
use Rattle.workspace.specs.Map.{at_alpha1}
use Rattle.workspace.proofs.Lent.{slice_at}
use Rattle.signer.proofs.Openings.{head-written}
use Rattle.signer.proofs.Signer.write_head.Goals as goal

pub returns : goal.returns
returns c =
    let a = c.args in
    let s = a.self.now.salt in
    let h = a.h.now in
    let v = c.at_alpha1-a in
    let e = slice_at v.result at_alpha1 476 v.ensures a.work.now in
    head-written s h.com1 h.com2 _ a.sig.now a.self.now.salt_len (omega arith) (omega arith) c.put.ensures c.put-2.ensures c.put-3.ensures c.put-4.ensures
    ∙ ap (λ (l : List ℕ). place 0 (s ++ (h.com1 ++ (h.com2 ++ l))) a.sig.now) e
