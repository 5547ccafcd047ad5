-- `mqom::check` meets its contract: each length in its turn, the message, the verification, and the workspace cleared. Assumes nothing.
use Rattle.std.proofs.Common.{◌≡◌, ℕ, List, Bool, rules, refl, sym, ap₂, ◌∙◌}
use Rattle.paper.specs.Alpha.{r3}
use Rattle.paper.specs.Scheme.{verif_of}
use Rattle.mqom.proofs.Answers.{checks-length, checks-refused, checks-failed, checks-accepted}
use Rattle.mqom.proofs.Branches.{check-pk, check-sig, check-work, check-message, check-yes, check-no}
use Rattle.mqom.proofs.check.Goals as goal

-- the verification was of the caller's bytes
verified : (pk msg sig : List ℕ) {pk' sig' : List ℕ} {ok : Bool} → pk' ≡ pk → sig' ≡ sig → ok ≡ verif_of r3 pk' msg sig' → verif_of r3 pk msg sig ≡ ok
verified pk msg sig p s e = sym (ap₂ (λ x y. verif_of r3 x msg y) p s) ∙ sym e

pub returns-in_err-pk : goal.returns-in_err-pk
returns-in_err-pk c = checks-length _ _ _ _ (check-pk _ _ _ _ (search rules)) (search rules) refl

pub returns-in_err-sig : goal.returns-in_err-sig
returns-in_err-sig c = checks-length _ _ _ _ (check-sig _ _ _ _ (search rules)) (search rules) refl

pub returns-in_err-work : goal.returns-in_err-work
returns-in_err-work c = checks-length _ _ _ _ (check-work _ _ _ _ (search rules)) (search rules) refl

pub returns-then-msg-gt-MESSAGE : goal.returns-then-msg-gt-MESSAGE
returns-then-msg-gt-MESSAGE c = checks-refused _ _ _ _
    (check-message _ _ _ _ (record { pk-60 = search rules; sig-3484 = search rules; work-65536 = search rules }) c.if-msg-gt-MESSAGE.true)
    (search rules)

pub returns-then-accepted : goal.returns-then-accepted
returns-then-accepted c =
    let a = c.args in
    let pk : c.in_ok-pk.pk.now ≡ a.pk.now = search rules in
    let sig : c.in_ok-sig.sig.now ≡ a.sig.now = search rules in
    checks-accepted _ _ _ _ c.verify-accepted.new.work
    (check-yes _ _ _ _ (record { pk-60 = search rules; sig-3484 = search rules; work-65536 = search rules }) (search rules)
    (verified a.pk.now a.msg.now a.sig.now pk sig c.verify-accepted.ensures ∙ c.if-accepted.true))
    c.clear.ensures (search rules)

pub returns-else-accepted : goal.returns-else-accepted
returns-else-accepted c =
    let a = c.args in
    let pk : c.in_ok-pk.pk.now ≡ a.pk.now = search rules in
    let sig : c.in_ok-sig.sig.now ≡ a.sig.now = search rules in
    checks-failed _ _ _ _ c.verify-accepted.new.work
    (check-no _ _ _ _ (record { pk-60 = search rules; sig-3484 = search rules; work-65536 = search rules }) (search rules)
    (verified a.pk.now a.msg.now a.sig.now pk sig c.verify-accepted.ensures ∙ c.if-accepted.false))
    c.clear.ensures (search rules)
