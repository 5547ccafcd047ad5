-- `shake::xof` meets its contract. Assumes nothing.
use mathlib.Core.Path.{◌∙◌}
use lib.ListN.{length}
use Rattle.shake.proofs.Shake.{shake128-whole}
use Rattle.shake.proofs.xof.Goals as goal

pub returns : goal.returns
returns c =
    c.squeeze.ensures
    ∙ shake128-whole c.args.text.now (length c.args.out.now) c.new.ensures c.absorb.ensures c.finish.ensures
