-- `cells::write_text` meets its contract: before turn i the first 2i characters are written. Assumes nothing.
use Rattle.std.proofs.Common.{◌≡◌, ◌*◌}
use Rattle.octets.proofs.Write.{written}
use Rattle.cells.specs.Cell.{write_text}
use Rattle.cells.proofs.write_text.Given as goal

abbrev pub invariant-loop-i : goal.invariant-loop-i
invariant-loop-i l = l.cell ≡ written l.initial.cell 0 (write_text l.key) (2 * l.i)
