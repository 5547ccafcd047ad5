-- `field::times_root` meets its contract: of a byte, the digit that leaves is all that stands above 128. Assumes nothing.
use mathlib.Core.Path.{◌≡◌, ap}
use Prim.Native.Nat.{◌*◌, ◌/◌, ◌%◌}
use native.Mathlib.Omega.{arith}
use lib.Bits.{bit_xor}
use Rattle.octets.specs.Xor.{◌⊕◌}
use Rattle.field.specs.Gf.{times_root}
use Rattle.field.proofs.times_root.Goals as goal

pub returns : goal.returns
unfolding times_root ◌⊕◌
returns c =
    let a = c.args.a in
    let top : a / 128 * 27 ≡ a / 128 % 2 * 27 = omega arith in
    ap (bit_xor (a % 128 * 2)) top
