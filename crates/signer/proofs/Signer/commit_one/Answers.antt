-- `signer::Signer::commit_one` meets its contract. Assumes nothing.
use mathlib.Core.Path.{◌∙◌}
use native.Mathlib.Omega.{arith}
use Rattle.workspace.specs.Map.{at_vectors, at_tree}
use Rattle.workspace.proofs.Lent.{length-after, lent}
use Rattle.signer.proofs.Committing.{one-within, one-committed}
use Rattle.signer.proofs.Signer.commit_one.Goals as goal

pub returns-clause-keys : goal.returns-clause-keys
returns-clause-keys c =
    let a = c.at_tree-a in
    let k = c.commit-l in
    let v = c.at_vectors-v in
    let p = c.put_lane in
    let z = c.keep_lines.ensures.sizes in
    let g = lent a.result at_tree 12289 a.ensures k.new.room c.args.work.now (omega arith) k.auto.room in
    let h = lent v.result at_vectors 10944 v.ensures p.new.vectors _ (omega (arith, length-after g)) p.auto.vectors in
    one-within c.args.work.now _ _ _ _ _ _ (omega arith) g h c.args.e _ _ _ _ c.requires z.0 z.1 z.2 z.3 c.keep_lines.ensures.kept

pub returns-clause-adds : goal.returns-clause-adds
returns-clause-adds c =
    let a = c.at_tree-a in
    let k = c.commit-l in
    let v = c.at_vectors-v in
    let p = c.put_lane in
    let z = c.keep_lines.ensures.sizes in
    let g = lent a.result at_tree 12289 a.ensures k.new.room c.args.work.now (omega arith) k.auto.room in
    let h = lent v.result at_vectors 10944 v.ensures p.new.vectors _ (omega (arith, length-after g)) p.auto.vectors in
    λ m d.
    let l = (rw (c.salt_block-s.ensures, c.solution-x.ensures) at k.ensures) m (c.load-r.ensures ∙ d.roots c.args.e c.requires) in
    one-committed c.args.work.now _ _ _ _ _ _ (omega arith) g h c.args.e _ _ _ _ c.requires z.0 z.1 z.2 z.3 c.keep_lines.ensures.kept
    m _ _ _ p.ensures l.x0-is l.hash-is l.correction-is l.u0-is l.u1-is d
