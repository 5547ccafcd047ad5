-- `cells::write_text` meets its contract: before turn i the first 2i characters are written. Assumes nothing.
use Rattle.std.proofs.Common.{◌≡◌, ◌+◌, ◌*◌, ◌∙◌, sym, arith}
use Rattle.octets.proofs.Write.{written_none, fill-turn, fill_end}
use Rattle.cells.proofs.Text.{length-write_text, write_text-high, write_text-low}
use Rattle.cells.proofs.write_text.Goals as goal

pub loop-i-init : goal.loop-i-init
loop-i-init c = written_none _ _ _

pub loop-i-preserved : goal.loop-i-preserved
loop-i-preserved c =
    let l = c.loop-i in
    let k = c.args.key.now in
    let n = length-write_text k in
    let e : 2 * (l.i + 1) ≡ 2 * l.i + 1 + 1 = omega arith in
    let high = fill-turn _ _ (2 * l.i) (omega arith) (omega arith) l.invariant (c.hex_char.ensures ∙ sym (write_text-high l.i k (omega arith))) in
    rw e (fill-turn _ _ (2 * l.i + 1) (omega arith) (omega arith) high (c.hex_char-in-loop-i.ensures ∙ sym (write_text-low l.i k (omega arith))))

pub returns : goal.returns
returns c = fill_end _ _ _ (omega (arith, length-write_text c.args.key.now)) (omega arith) c.loop-i.invariant
