-- `signer::Signer::write_openings` meets its contract: before turn e, e openings are written. Assumes nothing.
use Rattle.std.proofs.Common.{arith, ap, ◌∙◌}
use Rattle.paper.specs.Challenge.{hidden_in}
use Rattle.paper.specs.Keys.{solution_of}
use Rattle.paper.proofs.Keys.{length-solution_of}
use Rattle.signer.specs.Written.{opening_at}
use Rattle.signer.proofs.Openings.{openings-start, openings-turn}
use Rattle.signer.proofs.Signer.write_openings.Goals as goal

pub loop-e-init : goal.loop-e-init
loop-e-init c = λ m g. openings-start m _ _ _ _

pub loop-e-preserved : goal.loop-e-preserved
unfolding opening_at hidden_in
loop-e-preserved c =
    let a = c.args in
    let l = c.loop-e in
    let sk = a.self.now.sk.now in
    let x = solution_of sk in
    λ m g.
    c.write_opening.ensures m g
    ∙ ap (opening_at m _ x (hidden_in a.c.now) l.e) (l.invariant m g)
    ∙ openings-turn m _ x (hidden_in a.c.now) g.seed (length-solution_of sk a.self.now.sk_len) c.fits-c l.e a.sig.now (omega arith)
