-- How a tree's leaves are counted at the depth below, for the check to find alone. Assumes nothing.
use Rattle.tree.proofs.Powers.{pow-half, two-zero}

pub ruleset depths = (pow-half, two-zero)
