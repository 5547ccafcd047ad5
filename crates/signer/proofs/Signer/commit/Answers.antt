-- `signer::Signer::commit` meets its contract. Assumes nothing.
use Rattle.std.proofs.Common.{arith, length, ◌≡◌, ◌∙◌}
use Rattle.octets.proofs.Part.{part-all}
use Rattle.workspace.proofs.Lent.{length-after, lent-front}
use Rattle.signer.proofs.Committing.{keys-back, keys-end, committed-start}
use Rattle.signer.proofs.Signer.commit.Goals as goal

pub put_roots-requires : goal.put_roots-requires
put_roots-requires c =
    let v = c.at_vectors-v in
    let p = c.plain_keys in
    let g = lent-front v.result 18304 v.ensures p.new.out c.args.work.now (omega arith) p.auto.out in
    keys-back (omega arith) g p.ensures

pub returns-clause-keys : goal.returns-clause-keys
returns-clause-keys c =
    let v = c.at_vectors-v in
    let p = c.plain_keys in
    let g = lent-front v.result 18304 v.ensures p.new.out c.args.work.now (omega arith) p.auto.out in
    let hw : length c.args.work.now ≡ 65536 = omega arith in
    let l = length-after g ∙ hw in
    let r = c.put_roots.ensures in
    let k = c.commit_all.ensures in
    keys-end _ _ _ _ l (keys-back (omega arith) g p.ensures) r k.keys

pub returns-clause-adds : goal.returns-clause-adds
returns-clause-adds c =
    let a = c.args in
    let v = c.at_vectors-v in
    let p = c.plain_keys in
    let g = lent-front v.result 18304 v.ensures p.new.out c.args.work.now (omega arith) p.auto.out in
    let hw : length c.args.work.now ≡ 65536 = omega arith in
    let l = length-after g ∙ hw in
    let r = c.put_roots.ensures in
    let k = c.commit_all.ensures in
    let m = c.load.ensures ∙ part-all 16 a.mseed.now (omega arith) in
    k.adds a.mseed.now (committed-start _ _ a.mseed.now _ _ _ l (omega arith) m r)
