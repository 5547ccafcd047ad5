-- `folding::add_tape` meets its contract. Assumes nothing.
use Rattle.std.proofs.Common.{◌∙◌, ap, arith}
use Rattle.octets.specs.Xor.{xor_b}
use Rattle.folding.proofs.Tape.{tape-added}
use Rattle.folding.proofs.add_tape.Goals as goal

pub returns : goal.returns
returns c =
    let s = c.args in
    let rows = c.split_at_mut-acc in
    tape-added s.f.now s.r s.p (omega arith) (omega arith) c.requires c.add.new.dst rows.result.1.now c.add-2.new.dst _
    (c.add.ensures ∙ ap (λ l. xor_b l s.r) rows.ensures.front) rows.ensures.back (omega arith) c.add-2.ensures
