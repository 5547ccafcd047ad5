-- `shake::put` meets its contract. Assumes nothing.
use lib.ListN.{set, get_or}
use lib.Bits.{bit_xor}
use mathlib.Core.Path.{ap}
use Prim.Native.Nat.{ℕ, ◌+◌, ◌*◌, ◌%◌, ◌/◌, ◌^◌, ◌<◌, ◌≤◌}
use native.Mathlib.Omega.{arith}
use lib.Pow.{shl_exact}
use Rattle.octets.specs.Xor.{◌⊕◌}
use Rattle.shake.specs.Shake.{xor_lane}
use Rattle.shake.proofs.put.Goals as goal

pub returns : goal.returns
unfolding ◌⊕◌ xor_lane
returns c =
    let j = c.args.j in
    let b = c.args.b in
    let a = c.args.a.now in
    let low : b < 2 ^ 8 = omega arith in
    let fits : 8 + 8 * (j % 8) ≤ 64 = omega arith in
    ap (λ (w : ℕ). set a (j / 8) (bit_xor (get_or a (j / 8) 0) w)) (shl_exact 8 (8 * (j % 8)) 64 low fits)
