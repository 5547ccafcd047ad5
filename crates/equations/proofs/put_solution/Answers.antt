-- `equations::put_solution` meets its contract: three writes, one after the other. Assumes nothing.
use native.Mathlib.Omega.{arith}
use Rattle.equations.proofs.Solution.{own_is}
use Rattle.equations.proofs.put_solution.Goals as goal

pub returns : goal.returns
returns c =
    let cleared = c.clear_points.ensures in
    let pointed = c.put_point.ensures in
    own_is _ _ _ _ _ _ cleared (omega arith) pointed c.put_lane.ensures c.all_lifted.ensures
