-- `folding::corrected` meets its contract. Assumes nothing.
use Rattle.std.proofs.Common.{arith}
use Rattle.octets.specs.Lists.{part}
use Rattle.folding.proofs.Values.{corrected-write}
use Rattle.folding.proofs.corrected.Goals as goal

pub returns : goal.returns
unfolding part
returns c = corrected-write c.args.f.now c.args.d.now _ _ (omega arith) c.requires c.copy_from_slice.ensures.after c.add.ensures
