-- `keygen::draw` meets its contract. Assumes nothing.
use mathlib.Core.Path.{ap, ◌∙◌}
use mathlib.Core.List.{◌∷◌}
use Prim.Native.Nat.{ℕ}
use Rattle.shake.specs.Shake.{shake128}
use Rattle.paper.specs.Symmetric.{xof}
use Rattle.paper.specs.Keys.{drawn}
use Rattle.keygen.proofs.draw.Goals as goal

pub returns : goal.returns
unfolding drawn xof
returns c = c.xof_after.ensures ∙ ap (λ (k : ℕ). shake128 (k ∷ c.args.seed.now) 60) c.selector.ensures
