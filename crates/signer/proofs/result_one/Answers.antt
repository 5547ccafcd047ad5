-- `signer::result_one` meets its contract. Assumes nothing.
use mathlib.Core.Path.{◌≡◌, ap, ◌∙◌}
use Prim.Native.Nat.{ℕ}
use native.Mathlib.Omega.{arith}
use Rattle.std.proofs.lemmas.Grind.{common_steps}
use Rattle.octets.specs.Lists.{part}
use Rattle.paper.specs.Keys.{mseed_eq_of}
use Rattle.workspace.specs.Map.{at_vectors, at_alpha0, at_alpha1}
use Rattle.workspace.proofs.Lent.{length-after, slice, slice_at, lent}
use Rattle.signer.proofs.Columns.{one-within, one-adds}
use Rattle.signer.proofs.result_one.Goals as goal

pub new-requires : goal.new-requires
unfolding part
new-requires c = let w = c.args.work.now in ap (λ (k : ℕ). part 0 k w) c.at_vectors-v.ensures ∙ c.requires.0

pub returns-clause-rest : goal.returns-clause-rest
unfolding part mseed_eq_of
returns-clause-rest c =
    let i = c.args.i in
    let w = c.args.work.now in
    let a = c.at_alpha0-a in
    let k = c.add_column in
    let b = c.at_alpha1-b in
    let l = c.add_column-2 in
    let g = lent a.result at_alpha0 476 a.ensures k.new.out c.args.work.now (omega arith) k.auto.out in
    let h = lent b.result at_alpha1 476 b.ensures l.new.out _ (omega (arith, length-after g)) l.auto.out in
    one-within i w _ _ _ _ _ _ c.requires.1 (omega arith) g h

pub returns-clause-adds : goal.returns-clause-adds
unfolding part mseed_eq_of
returns-clause-adds c =
    let i = c.args.i in
    let w = c.args.work.now in
    let v = c.at_vectors-v in
    let m : c.unwrap.result.now ≡ slice v.result 10944 w = grind (arith, common_steps) in
    let a = c.at_alpha0-a in
    let k = c.add_column in
    let b = c.at_alpha1-b in
    let l = c.add_column-2 in
    let g = lent a.result at_alpha0 476 a.ensures k.new.out c.args.work.now (omega arith) k.auto.out in
    let h = lent b.result at_alpha1 476 b.ensures l.new.out _ (omega (arith, length-after g)) l.auto.out in
    one-adds i w _ _ _ _ _ _ c.requires.1 (omega arith) g h c.args.pk.now _ _ _ _ c.expand-q.ensures
    (m ∙ slice_at v.result at_vectors 10944 v.ensures w) c.on_lines-z.ensures k.ensures l.ensures
