-- `transcript::transcript_input` meets its contract. Assumes nothing.
use Rattle.std.proofs.Common.{ℕ, ◌∷◌, ◌++◌, replicate, refl, ap, ◌∙◌}
use Rattle.transcript.proofs.Inputs.{Written, transcript-input}
use Rattle.transcript.proofs.transcript_input.Goals as goal

pub returns : goal.returns
returns c =
    let v = c.selector in
    let s = c.args in
    let w : Written v.result s.pk.now s.com1.now s.com2.now s.m.now (replicate 157 0) _ _ _ _ =
    record { one = c.put.ensures; two = c.put-2.ensures; three = c.put-3.ensures; four = c.put-4.ensures } in
    transcript-input v.result _ _ _ _ _ c.told-pk c.requires.0 c.requires.1 c.told-m refl w
    ∙ ap (λ (x : ℕ). x ∷ (s.pk.now ++ s.com1.now ++ s.com2.now ++ s.m.now)) v.ensures
