-- `equations::row_start` meets its contract. Assumes nothing.
use Rattle.std.proofs.Common.{arith}
use Rattle.equations.proofs.Flat.{row_half}
use Rattle.equations.proofs.row_start.Goals as goal

pub returns : goal.returns
returns c = omega (arith, row_half c.args.j)
