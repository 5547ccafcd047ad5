-- `transcript::challenge_input` meets its contract. Assumes nothing.
use Rattle.std.proofs.Common.{ℕ, ◌∷◌, replicate, refl, ap, ◌∙◌, arith}
use Rattle.transcript.proofs.Inputs.{front-two}
use Rattle.transcript.proofs.challenge_input.Goals as goal

pub returns : goal.returns
returns c =
    let v = c.selector in
    let h = c.args.hash.now in
    front-two 32 33 v.result h (replicate 37 0) c.told-hash refl (omega arith) c.put.ensures ∙ ap (λ (x : ℕ). x ∷ h) v.ensures
