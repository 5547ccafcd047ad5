-- `signer::Signer::alphas` meets its contract. Assumes nothing.
use mathlib.Core.Path.{◌∙◌}
use native.Mathlib.Omega.{arith}
use Rattle.workspace.specs.Map.{at_vectors}
use Rattle.workspace.proofs.Lent.{length-after, lent}
use Rattle.signer.proofs.ResultLines.{keys-stay, all-prepared}
use Rattle.signer.proofs.Signer.alphas.Goals as goal

pub results-requires : goal.results-requires
results-requires c =
    let w = c.args.work.now in
    let v = c.at_vectors-v in
    let p = c.put_solution in
    let k = c.spread in
    let g = lent v.result at_vectors 10944 v.ensures p.new.vectors w (omega arith) p.auto.vectors in
    let h = lent v.result at_vectors 10944 v.ensures k.new.vectors _ (omega (arith, length-after g)) k.auto.vectors in
    keys-stay w _ _ _ _ _ _ (omega arith) g h ∙ c.requires

pub returns : goal.returns
returns c =
    let w = c.args.work.now in
    let v = c.at_vectors-v in
    let p = c.put_solution in
    let k = c.spread in
    let g = lent v.result at_vectors 10944 v.ensures p.new.vectors w (omega arith) p.auto.vectors in
    let h = lent v.result at_vectors 10944 v.ensures k.new.vectors _ (omega (arith, length-after g)) k.auto.vectors in
    let r = c.results.ensures in
    λ m d.
    all-prepared w _ _ _ _ _ _ (omega arith) g h c.args.self.now.sk.now _ _ (rw c.solution.ensures at p.ensures) k.ensures r.rest (rw c.public.ensures at r.adds) c.args.self.now.salt m d
