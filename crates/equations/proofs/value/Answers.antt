-- `equations::value` meets its contract: the flat sum is the nested one. Assumes nothing.
use mathlib.Core.Path.{◌∙◌}
use borrow.Author.Rules.{rules}
use Rattle.equations.proofs.Flat.{flat-value}
use Rattle.equations.proofs.value.Goals as goal

pub returns : goal.returns
returns c =
    let s = c.args in
    λ x h. c.dot.ensures ∙ flat-value s.q.now s.w.now x (search rules) h
