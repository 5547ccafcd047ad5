-- `mqom::make_keys` meets its contract: each length in its turn, the work, and the workspace cleared. Assumes nothing.
use Rattle.std.proofs.Common.{◌≡◌, rules, refl, ap, ◌∙◌}
use Rattle.paper.specs.Keys.{key_gen}
use Rattle.mqom.proofs.Answers.{keys-refused, keys-made}
use Rattle.mqom.proofs.Branches.{keygen-seed, keygen-pk, keygen-sk, keygen-work}
use Rattle.mqom.proofs.make_keys.Goals as goal

pub returns-in_err-seed : goal.returns-in_err-seed
returns-in_err-seed c = keys-refused _ _ _ _ (keygen-seed _ _ _ _ (search rules)) (search rules) refl refl refl

pub returns-in_err-pk : goal.returns-in_err-pk
returns-in_err-pk c = keys-refused _ _ _ _ (keygen-pk _ _ _ _ (search rules)) (search rules) refl refl refl

pub returns-in_err-sk : goal.returns-in_err-sk
returns-in_err-sk c = keys-refused _ _ _ _ (keygen-sk _ _ _ _ (search rules)) (search rules) (search rules) refl refl

pub returns-in_err-work : goal.returns-in_err-work
returns-in_err-work c = keys-refused _ _ _ _ (keygen-work _ _ _ _ (search rules)) (search rules) (search rules) (search rules) refl

pub returns : goal.returns
returns c =
    let seed : c.in_ok-seed.seed.now ≡ c.args.seed.now = search rules in
    keys-made _ _ _ _ c.make_keys.new.work
    (record { seed-32 = search rules; pk-60 = search rules; sk-88 = search rules; work-65536 = search rules })
    (c.make_keys.ensures.public ∙ ap (λ s. (key_gen s).pk) seed) (c.make_keys.ensures.secret ∙ ap (λ s. (key_gen s).sk) seed) c.clear.ensures (search rules)
