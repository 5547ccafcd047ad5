-- `field::add_scaled` meets its contract: before turn i the first i elements are the new ones. Assumes nothing.
use Rattle.std.proofs.Common.{length, sym, ap, ◌∙◌, arith}
use Rattle.octets.specs.Lists.{vec}
use Rattle.octets.specs.Xor.{◌⊕◌}
use Rattle.octets.proofs.Tab.{length-tab, vec-tab}
use Rattle.octets.proofs.Write.{written_none, fill_end, add_turn}
use Rattle.field.specs.Gf.{◌⊗◌}
use Rattle.field.proofs.add_scaled.Goals as goal

pub loop-i-init : goal.loop-i-init
loop-i-init c = written_none _ _ _

pub loop-i-preserved : goal.loop-i-preserved
loop-i-preserved c =
    let l = c.loop-i in
    let s = c.args in
    let n = length-tab (length s.dst.now) (λ i. vec s.dst.now i ⊕ (s.w ⊗ vec s.src.now i)) in
    add_turn _ _ _ _ (omega arith) (omega arith) l.invariant (vec-tab _ _ _ (omega arith) ∙ ap (vec s.dst.now l.i ⊕◌) (sym c.mul.ensures))

pub returns : goal.returns
returns c = fill_end _ _ _ (sym (length-tab _ _)) (omega arith) c.loop-i.invariant
