-- `ggm::Tree::expand` meets its contract: what its two calls of itself write are the two halves. The measure is the depth. Assumes nothing.
use Rattle.ggm.proofs.Tree.+expand.Given as goal

abbrev pub decreases-expand : goal.decreases-expand
decreases-expand l = l.d
