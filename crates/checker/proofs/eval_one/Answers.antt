-- `checker::eval_one` meets its contract. Assumes nothing.
use native.Mathlib.Omega.{arith}
use Rattle.octets.specs.Lists.{part}
use Rattle.paper.specs.Alpha.{r3}
use Rattle.paper.specs.Scheme.{sig_salt, sig_alpha1, sig_paths, sig_outs, sig_sent}
use Rattle.workspace.specs.Map.{at_vectors, at_tree}
use Rattle.workspace.proofs.Lent.{length-after, lent}
use Rattle.checker.proofs.Lent.{path-is, out-is, sent_is, alpha1-is, evaluated-code}
use Rattle.checker.proofs.eval_one.Goals as goal

pub returns : goal.returns
unfolding part
returns c =
    let w = c.args.work.now in
    let z = c.args.sig.now in
    let e = c.args.e in
    let salt = c.load-s.ensures in
    let a = c.at_tree-a in
    let k = c.eval-v in
    let b = c.at_vectors-m in
    let r = c.point-r.ensures in
    let p = c.put_values in
    let f = lent a.result at_tree 12289 a.ensures k.new.room c.args.work.now (omega arith) k.auto.room in
    let g = lent b.result at_vectors 10944 b.ensures p.new.vectors _ (omega (arith, length-after f)) p.auto.vectors in
    λ i q o.
    let v = k.ensures (sig_paths r3 z) (sig_outs r3 z) (sig_sent r3 z) (path-is z e c.told-sig c.requires) (out-is z e c.told-sig c.requires) (sent_is z e c.told-sig c.requires) in
    evaluated-code w _ _ _ _ _ _ c.told-work f g e _ _ _ _ _ _ c.requires c.keep_values.ensures p.ensures
    (sig_salt r3 z) (sig_paths r3 z) (sig_outs r3 z) (sig_sent r3 z) (sig_alpha1 r3 z) i _ c.args.hidden salt q (alpha1-is z e c.told-sig c.requires) r v.x-is v.hash-is v.u-is o
