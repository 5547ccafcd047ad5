-- `folding::sum_u` meets its contract. Assumes nothing.
use Rattle.octets.specs.Lists.{part}
use Rattle.folding.specs.Rows.{u_acc}
use Rattle.folding.proofs.sum_u.Goals as goal

pub returns : goal.returns
unfolding u_acc part
returns c = c.copy_from_slice.ensures.after
