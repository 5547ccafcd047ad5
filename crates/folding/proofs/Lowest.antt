-- p_i of algorithm 13 is how many of i's lowest digits are 1, and 7 for the last leaf: by a computed test at the 256 leaves. Assumes nothing.
use Rattle.std.proofs.Common.{◌≡◌, ℕ, ◌<◌, eqb}
use Rattle.std.specs.Int.{trailing_ones}
use Prim.Native.Nat.{min}
use mir.Syntax.{w64}
use lib.Count.{count_trailing_zeros}
use lib.Dec.{T, eqb→eq}
use Rattle.octets.specs.Xor.{◌⊕◌}
use Rattle.field.proofs.Linear.{below, below_at}
use Rattle.algebra.specs.Folding.{point, point_or0, bit_set, position}

ones-test : T (below 256 (λ i. eqb (min (trailing_ones w64 i) 7) (position 8 i)))
unfolding count_trailing_zeros position bit_set point_or0 point ◌⊕◌
ones-test = tt

pub ones-position : (i : ℕ) → i < 256 → min (trailing_ones w64 i) 7 ≡ position 8 i
ones-position i h = eqb→eq (min (trailing_ones w64 i) 7) (position 8 i) (below_at 256 (λ i. eqb (min (trailing_ones w64 i) 7) (position 8 i)) ones-test i h)
