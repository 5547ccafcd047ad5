-- `checker::verify` meets its contract. Assumes nothing.
use Rattle.octets.specs.Lists.{part}
use Rattle.paper.specs.Challenge.{hidden_in}
use Rattle.checker.proofs.Verdict.{verif-first, verif-second, verif-third}
use Rattle.checker.proofs.verify.Goals as goal

pub returns-then-not-passes : goal.returns-then-not-passes
unfolding part
returns-then-not-passes c =
    let h = c.fiat_shamir-hash.ensures in
    let d = c.sample-c.ensures in
    let p = c.passes.ensures in
    verif-first c.args.pk.now c.args.msg.now c.args.sig.now _ _ h d _ p c.if-not-passes.true

pub returns-then-not-evaluate : goal.returns-then-not-evaluate
unfolding part
returns-then-not-evaluate c =
    let h = c.fiat_shamir-hash.ensures in
    let d = c.sample-c.ensures in
    let p = c.passes.ensures in
    let q = c.if-not-passes.false in
    verif-second c.args.pk.now c.args.msg.now c.args.sig.now _ _ h d _ _ p q c.evaluate.ensures.same c.if-not-evaluate.true

pub returns : goal.returns
unfolding part
returns c =
    let h = c.fiat_shamir-hash.ensures in
    let d = c.sample-c.ensures in
    let p = c.passes.ensures in
    let q = c.if-not-passes.false in
    let a = c.evaluate.ensures in
    let r = c.if-not-evaluate.false in
    verif-third c.args.pk.now c.args.msg.now c.args.sig.now _ _ h d _ _ _ p q a.same r (c.recompute.ensures (hidden_in _) a.holds)
