-- `aes::tables::entry` meets its contract, row by row. Assumes nothing.
use native.Mathlib.Omega.{arith}
use lib.Dec.{lit<}
use Rattle.aes.proofs.Words.{row-made}
use Rattle.aes.proofs.tables.entry.Goals as goal

pub returns-in-0 : goal.returns-in-0
returns-in-0 c = let d = c.times_root-d in
    row-made c.args.s d.result c.ranges.s.fits d.ensures c.args.i 0 c.in-0.is (lit< tt) d.type_inv c.from_le_bytes.ensures

pub returns-in-1 : goal.returns-in-1
returns-in-1 c = let d = c.times_root-d in
    row-made c.args.s d.result c.ranges.s.fits d.ensures c.args.i 1 c.in-1.is (lit< tt) d.type_inv c.from_le_bytes-in-1.ensures

pub returns-in-2 : goal.returns-in-2
returns-in-2 c = let d = c.times_root-d in
    row-made c.args.s d.result c.ranges.s.fits d.ensures c.args.i 2 c.in-2.is (lit< tt) d.type_inv c.from_le_bytes-in-2.ensures

pub returns-in_default : goal.returns-in_default
returns-in_default c = let d = c.times_root-d in
    row-made c.args.s d.result c.ranges.s.fits d.ensures c.args.i 3 (omega arith) (lit< tt) d.type_inv c.from_le_bytes-in_default.ensures
