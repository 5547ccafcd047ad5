-- `cells::read_bytes` meets its contract: before turn i the first i bytes are written, and the first 2i characters are digits. Assumes nothing.
use Rattle.std.proofs.Common.{◌≡◌, ◌*◌, drop}
use Rattle.octets.proofs.Write.{written}
use Rattle.cells.specs.Cell.{all_hex, read_bytes}
use Rattle.cells.proofs.read_bytes.Given as goal

abbrev pub invariant-loop-i : goal.invariant-loop-i
invariant-loop-i l =
    (l.key ≡ written l.initial.key 0 (read_bytes l.cell) l.i) × (all_hex l.cell ≡ all_hex (drop (2 * l.i) l.cell))
