-- `checker::recompute_one` meets its contract. Assumes nothing.
use mathlib.Core.Path.{◌≡◌, ap, ◌∙◌}
use Prim.Native.Nat.{ℕ}
use native.Mathlib.Omega.{arith}
use Rattle.std.proofs.lemmas.Grind.{common_steps}
use Rattle.octets.specs.Lists.{part}
use Rattle.paper.specs.Keys.{mseed_eq_of}
use Rattle.workspace.specs.Map.{at_vectors, at_alpha0}
use Rattle.workspace.proofs.Lent.{slice, slice_at, lent}
use Rattle.checker.proofs.Lent.{recomputed-keys, recomputed-one}
use Rattle.checker.proofs.recompute_one.Goals as goal

pub new-requires : goal.new-requires
unfolding part
new-requires c =
    let b = c.at_vectors-v in
    ap (λ (k : ℕ). part 0 k c.args.work.now) b.ensures ∙ c.requires.keys

pub returns-clause-keys : goal.returns-clause-keys
unfolding part mseed_eq_of
returns-clause-keys c =
    let w = c.args.work.now in
    let a = c.at_alpha0-a in
    let y = c.add_column in
    let f = lent a.result at_alpha0 476 a.ensures y.new.out w (omega arith) y.auto.out in
    recomputed-keys w _ _ _ c.told-work f c.requires.keys

pub returns-clause-adds : goal.returns-clause-adds
unfolding part mseed_eq_of
returns-clause-adds c =
    let w = c.args.work.now in
    let q = c.expand-q.ensures in
    let z = c.at_points-z.ensures in
    let b = c.at_vectors-v in
    let a = c.at_alpha0-a in
    let y = c.add_column in
    let m : c.unwrap.result.now ≡ slice b.result 10944 w = grind (arith, common_steps) in
    let f = lent a.result at_alpha0 476 a.ensures y.new.out w (omega arith) y.auto.out in
    recomputed-one w _ _ _ c.told-work f c.args.pk.now _ _ _ c.args.i c.requires.i_bound q (m ∙ slice_at b.result at_vectors 10944 b.ensures w) z y.ensures
