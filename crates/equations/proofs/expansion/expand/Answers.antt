-- `expansion::expand` meets its contract. Assumes nothing.
use mathlib.Core.Path.{ap, ◌∙◌}
use mathlib.Core.List.{List}
use Prim.Native.Nat.{ℕ}
use Rattle.octets.specs.Lists.{zero16}
use Rattle.paper.specs.Symmetric.{prg}
use Rattle.paper.specs.Keys.{rows}
use Rattle.equations.proofs.expansion.expand.Goals as goal

pub returns : goal.returns
unfolding rows
returns c = c.fill.ensures ∙ ap (λ (s : List ℕ). prg zero16 0 s 1652) c.seed.ensures
