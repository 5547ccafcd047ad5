-- `checker::recompute` meets its contract. Assumes nothing.
use Rattle.std.proofs.Common.{arith}
use Rattle.octets.specs.Lists.{part}
use Rattle.workspace.specs.Map.{at_vectors}
use Rattle.workspace.proofs.Lent.{length-after, lent, lent-front}
use Rattle.checker.proofs.Lent.{keys-stand, recompute-same}
use Rattle.checker.proofs.recompute.Goals as goal

pub recompute_all-requires : goal.recompute_all-requires
unfolding part
recompute_all-requires c =
    let w = c.args.work.now in
    let v = c.at_vectors-v in
    let k = c.plain_keys in
    let y = c.spread in
    let f = lent-front v.result 18304 v.ensures k.new.out w (omega arith) k.auto.out in
    let g = lent v.result at_vectors 10944 v.ensures y.new.vectors _ (omega (arith, length-after f)) y.auto.vectors in
    keys-stand w _ _ _ _ _ _ c.told-work f g k.ensures

pub returns : goal.returns
unfolding part
returns c =
    let w = c.args.work.now in
    let v = c.at_vectors-v in
    let k = c.plain_keys in
    let y = c.spread in
    let f = lent-front v.result 18304 v.ensures k.new.out w (omega arith) k.auto.out in
    let g = lent v.result at_vectors 10944 v.ensures y.new.vectors _ (omega (arith, length-after f)) y.auto.vectors in
    let u = c.recompute_all in
    let p = c.put.ensures in
    let b = c.second_commitment-b.ensures.hash in
    λ i o.
    recompute-same w _ _ _ _ _ _ c.told-work f g c.args.pk.now c.args.sig.now i c.told-sig o y.ensures _ _ _ _ (omega arith) u.ensures p b c.same.ensures
