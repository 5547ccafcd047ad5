-- `ggm::Tree::open_path` meets its contract: a sibling behind the path of the half that hides the leaf. The measure is the depth. Assumes nothing.
use Rattle.ggm.proofs.Tree.+open_path.Given as goal

abbrev pub decreases-open_path : goal.decreases-open_path
decreases-open_path l = l.d
