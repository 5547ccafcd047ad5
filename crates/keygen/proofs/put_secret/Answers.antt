-- `keygen::put_secret` meets its contract: what the two parts hold, laid end to end. Assumes nothing.
use Rattle.std.proofs.Common.{◌++◌, ap₂}
use Rattle.octets.specs.Lists.{part}
use Rattle.keygen.proofs.put_secret.Goals as goal

pub returns : goal.returns
unfolding part
returns c = ap₂ ◌++◌ c.copy_from_slice.ensures.after c.copy_from_slice-2.ensures.after
