-- `ggm::Tree::rebuild` meets its contract: one half is rebuilt, the other expanded from the path. The measure is the depth. Assumes nothing.
use Rattle.ggm.proofs.Tree.+rebuild.Given as goal

abbrev pub decreases-rebuild : goal.decreases-rebuild
decreases-rebuild l = l.d
