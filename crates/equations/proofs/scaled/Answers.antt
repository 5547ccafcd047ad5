-- `equations::scaled` meets its contract: a sum of one term, folded. Assumes nothing.
use mathlib.Core.Path.{◌∙◌}
use native.Mathlib.Omega.{arith}
use Rattle.equations.proofs.Evals.{scaled-is}
use Rattle.equations.proofs.scaled.Goals as goal

pub returns : goal.returns
returns c =
    let s = c.args in
    λ v h. c.fold.ensures ∙ scaled-is s.m.now v h _ s.k s.c (omega arith) c.add_masked.ensures
