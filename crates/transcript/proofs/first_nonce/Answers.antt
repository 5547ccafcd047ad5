-- `transcript::first_nonce` meets its contract: no nonce below the present one passed. The measure is what is left of the tries.
-- Assumes nothing.
use mathlib.Core.Path.{sym, ◌∙◌}
use native.Mathlib.Omega.{arith}
use Rattle.transcript.proofs.Nonces.{passing, searching-start, searching-test, searching-turn, search-found, search-spent}
use Rattle.transcript.proofs.first_nonce.Goals as goal

pub loop-nonce-init : goal.loop-nonce-init
loop-nonce-init c = searching-start c.args.hash.now c.args.tries _ (omega arith) c.challenge_input-p.ensures

pub loop-nonce-preserved : goal.loop-nonce-preserved
loop-nonce-preserved c =
    let l = c.loop-nonce in
    let a = c.args in
    let t = c.test in
    searching-turn a.hash.now a.tries l.p l.nonce l.invariant (omega arith) t.ensures.0
    (sym (searching-test a.hash.now a.tries l.p l.nonce l.invariant t.ensures.0 t.ensures.1) ∙ c.if-test.false)

pub returns-then-nonce-tries : goal.returns-then-nonce-tries
returns-then-nonce-tries c =
    let l = c.loop-nonce in
    let a = c.args in
    search-spent (passing a.hash.now) a.tries (λ k h. l.invariant.missed k (omega arith))

pub returns-then-test : goal.returns-then-test
returns-then-test c =
    let l = c.loop-nonce in
    let a = c.args in
    let t = c.test in
    search-found (passing a.hash.now) a.tries l.nonce (omega arith)
    (sym (searching-test a.hash.now a.tries l.p l.nonce l.invariant t.ensures.0 t.ensures.1) ∙ c.if-test.true)
    l.invariant.missed
