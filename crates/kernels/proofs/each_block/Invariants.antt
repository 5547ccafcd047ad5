-- `kernels::each_block` meets its contract. Assumes nothing.
use Rattle.std.proofs.Common.{◌≡◌}
use Rattle.kernels.proofs.Blocks.{done}
use Rattle.kernels.proofs.each_block.Given as goal

abbrev pub invariant-loop-i : goal.invariant-loop-i
invariant-loop-i l = l.buf ≡ done l.w l.initial.buf l.i
