-- `checker::eval_all` meets its contract. Assumes nothing.
use Rattle.std.proofs.Common.{refl}
use Rattle.paper.specs.Challenge.{hidden_in}
use Rattle.checker.proofs.Evaluating.{evaluated-none}
use Rattle.checker.proofs.eval_all.Goals as goal

pub loop-e-init : goal.loop-e-init
loop-e-init c = evaluated-none _ _ _ _ _ _ _

pub loop-e-preserved : goal.loop-e-preserved
unfolding hidden_in
loop-e-preserved c = c.eval_one.ensures (hidden_in c.args.c.now) refl c.loop-e.invariant
