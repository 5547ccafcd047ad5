-- `field::add` meets its contract: before turn i the first i elements are the new ones. Assumes nothing.
use Rattle.std.proofs.Common.{refl, sym, arith}
use Rattle.octets.proofs.Xor.{length-xor_b, vec-xor_b}
use Rattle.octets.proofs.Write.{written_none, fill_end, add_turn}
use Rattle.field.proofs.add.Goals as goal

pub loop-i-init : goal.loop-i-init
loop-i-init c = written_none _ _ _

pub loop-i-preserved : goal.loop-i-preserved
loop-i-preserved c =
    let n = length-xor_b _ c.args.dst.now c.args.src.now refl (sym c.requires) in
    add_turn _ _ _ _ (omega arith) (omega arith) c.loop-i.invariant (vec-xor_b _ _ _ (omega arith) (omega arith))

pub returns : goal.returns
returns c = fill_end _ _ _ (sym (length-xor_b _ _ _ refl (sym c.requires))) (omega arith) c.loop-i.invariant
