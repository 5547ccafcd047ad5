-- `shake::xof_after` meets its contract. Assumes nothing.
use mathlib.Core.Path.{◌∙◌}
use mathlib.Core.List.{[], ◌∷◌}
use lib.ListN.{length}
use Rattle.shake.proofs.Shake.{shake128-parts}
use Rattle.shake.proofs.xof_after.Goals as goal

pub returns : goal.returns
returns c =
    c.squeeze.ensures
    ∙ shake128-parts
    (c.args.first ∷ [])
    c.args.text.now
    (length c.args.out.now)
    c.new.ensures
    c.absorb.ensures
    c.absorb-2.ensures
    c.finish.ensures
