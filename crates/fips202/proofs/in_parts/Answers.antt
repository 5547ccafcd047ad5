-- `fips202::in_parts` meets its contract. Assumes nothing.
use mathlib.Core.Path.{◌∙◌}
use lib.ListN.{length}
use Rattle.shake.proofs.Shake.{shake128-fed}
use Rattle.fips202.proofs.in_parts.Goals as goal

pub returns : goal.returns
returns c =
    c.squeeze.ensures
    ∙ shake128-fed c.args.text.now (length c.args.out.now) c.fed_parts.ensures c.finish.ensures
