-- `octets::copy` meets its contract: before turn i the first i bytes are those of src. Assumes nothing.
use Rattle.std.proofs.Common.{refl, sym, arith}
use Rattle.octets.proofs.Write.{written_none, fill-turn, fill_end}
use Rattle.octets.proofs.copy.Goals as goal

pub loop-i-init : goal.loop-i-init
loop-i-init c = written_none _ _ _

pub loop-i-preserved : goal.loop-i-preserved
loop-i-preserved c = fill-turn _ _ _ (omega arith) (omega arith) c.loop-i.invariant refl

pub returns : goal.returns
returns c = fill_end _ _ _ (sym c.requires) (omega arith) c.loop-i.invariant
