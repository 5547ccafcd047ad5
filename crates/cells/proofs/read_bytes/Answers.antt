-- `cells::read_bytes` meets its contract: each byte from its two digits, until a character is no digit. Assumes nothing.
use Rattle.std.proofs.Common.{◌≡◌, ◌+◌, ◌*◌, ◌∙◌, sym, ap₂, refl, arith}
use Rattle.octets.specs.Lists.{vec}
use Rattle.octets.proofs.Write.{written_none, fill-turn, fill_end}
use Rattle.cells.proofs.Character.{value-lt}
use Rattle.cells.proofs.Text.{hex-turn, hex-stop, hex-end, length-read_bytes, vec-read_bytes}
use Rattle.cells.proofs.read_bytes.Goals as goal

pub loop-i-init : goal.loop-i-init
loop-i-init c = (written_none _ _ _, refl)

pub returns-in_err-high : goal.returns-in_err-high
returns-in_err-high c = let l = c.loop-i in
    rw c.from_residual.ensures (l.invariant.1 ∙ hex-stop _ (2 * l.i) (omega arith) c.in_err-high.ensures)

pub returns-in_err-low : goal.returns-in_err-low
returns-in_err-low c = let l = c.loop-i in
    rw c.from_residual-in_err-low.ensures
    (l.invariant.1
    ∙ hex-turn _ (2 * l.i) (omega arith) c.in_ok-high.ensures.0
    ∙ hex-stop _ (2 * l.i + 1) (omega arith) c.in_err-low.ensures)

pub overflow_mul-key : goal.overflow_mul-key
overflow_mul-key c = let s = c.args.cell.now in
    omega (arith, value-lt (vec s (2 * c.loop-i.i)), c.in_ok-high.ensures.1)

pub overflow_add-key : goal.overflow_add-key
overflow_add-key c = let s = c.args.cell.now in let l = c.loop-i in
    omega (arith, value-lt (vec s (2 * l.i)), c.in_ok-high.ensures.1, value-lt (vec s (2 * l.i + 1)), c.in_ok-low.ensures.1)

pub loop-i-preserved : goal.loop-i-preserved
loop-i-preserved c =
    let l = c.loop-i in
    let s = c.args.cell.now in
    let n = length-read_bytes 60 s c.told-cell in
    let e : 2 * (l.i + 1) ≡ 2 * l.i + 1 + 1 = omega arith in
    let byte = ap₂ (λ (h l : _). h * 16 + l) c.in_ok-high.ensures.1 c.in_ok-low.ensures.1 in (
      fill-turn _ _ _ c.loop-i-test.true (omega arith) l.invariant.0 (byte ∙ sym (vec-read_bytes l.i s (omega arith))),
      rw e (l.invariant.1 ∙ hex-turn s (2 * l.i) (omega arith) c.in_ok-high.ensures.0 ∙ hex-turn s (2 * l.i + 1) (omega arith) c.in_ok-low.ensures.0),
    )

pub returns : goal.returns
returns c = let l = c.loop-i in
    (l.invariant.1 ∙ hex-end _ (2 * l.i) (omega arith), fill_end _ _ _ (sym (length-read_bytes 60 _ c.told-cell)) c.loop-i-test.false l.invariant.0)
