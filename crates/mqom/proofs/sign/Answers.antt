-- `mqom::sign` meets its contract: each length in its turn, the message, the tries, the work, and the workspace cleared. Assumes nothing.
use Rattle.std.proofs.Common.{rules, refl}
use Rattle.mqom.proofs.Answers.{signs-length, signs-refused, signs-worked}
use Rattle.mqom.proofs.Branches.{sign-sk, sign-salt, sign-mseed, sign-sig, sign-work, sign-message, sign_zero, sign_above}
use Rattle.mqom.proofs.sign.Goals.{then-tries-eq0-via-then-tries-eq0, then-tries-eq0-via-else-tries-eq0+then-tries-gt-TRIES}
use Rattle.mqom.proofs.sign.Goals as goal

pub returns-in_err-sk : goal.returns-in_err-sk
returns-in_err-sk c = signs-length _ _ _ _ _ _ _ (sign-sk _ _ _ _ _ _ _ (search rules)) (search rules) refl refl

pub returns-in_err-salt : goal.returns-in_err-salt
returns-in_err-salt c = signs-length _ _ _ _ _ _ _ (sign-salt _ _ _ _ _ _ _ (search rules)) (search rules) refl refl

pub returns-in_err-mseed : goal.returns-in_err-mseed
returns-in_err-mseed c = signs-length _ _ _ _ _ _ _ (sign-mseed _ _ _ _ _ _ _ (search rules)) (search rules) refl refl

pub returns-in_err-sig : goal.returns-in_err-sig
returns-in_err-sig c = signs-length _ _ _ _ _ _ _ (sign-sig _ _ _ _ _ _ _ (search rules)) (search rules) refl refl

pub returns-in_err-work : goal.returns-in_err-work
returns-in_err-work c = signs-length _ _ _ _ _ _ _ (sign-work _ _ _ _ _ _ _ (search rules)) (search rules) (search rules) refl

pub returns-then-msg-gt-MESSAGE : goal.returns-then-msg-gt-MESSAGE
returns-then-msg-gt-MESSAGE c = signs-refused _ _ _ _ _ _ _
    (sign-message _ _ _ _ _ _ _
    (record { sk-88 = search rules; salt-16 = search rules; mseed-16 = search rules; sig-3484 = search rules; work-65536 = search rules })
    c.if-msg-gt-MESSAGE.true)
    (search rules) (search rules)

pub returns-then-tries-eq0 : goal.returns-then-tries-eq0
returns-then-tries-eq0 c = elim c.then-tries-eq0.branch [
  | then-tries-eq0-via-then-tries-eq0 w ↦
      signs-refused _ _ _ _ _ _ _
      (sign_zero _ _ _ _ _ _ _
      (record { sk-88 = search rules; salt-16 = search rules; mseed-16 = search rules; sig-3484 = search rules; work-65536 = search rules })
      (search rules) w.if-tries-eq0.true)
      (search rules) (search rules)
  | then-tries-eq0-via-else-tries-eq0+then-tries-gt-TRIES w ↦
      signs-refused _ _ _ _ _ _ _
      (sign_above _ _ _ _ _ _ _
      (record { sk-88 = search rules; salt-16 = search rules; mseed-16 = search rules; sig-3484 = search rules; work-65536 = search rules })
      (search rules) w.if-tries-gt-TRIES.true)
      (search rules) (search rules)
]

pub returns-in_err-worked : goal.returns-in_err-worked
returns-in_err-worked c =
    signs-worked _ _ _ _ _ _ _ c.sign-worked.new.work
    (record { sk-88 = search rules; salt-16 = search rules; mseed-16 = search rules; sig-3484 = search rules; work-65536 = search rules })
    (search rules) (record { some = search rules; limit = search rules }) (search rules) (search rules) (search rules) (search rules)
    c.sign-worked.ensures (search rules) c.clear.ensures (search rules)

pub returns : goal.returns
returns c =
    signs-worked _ _ _ _ _ _ _ c.sign-worked.new.work
    (record { sk-88 = search rules; salt-16 = search rules; mseed-16 = search rules; sig-3484 = search rules; work-65536 = search rules })
    (search rules) (record { some = search rules; limit = search rules }) (search rules) (search rules) (search rules) (search rules)
    c.sign-worked.ensures (search rules) c.clear.ensures (search rules)
