-- `equations::add_masked` meets its contract: before turn i the first i bytes are the new ones. Assumes nothing.
use mathlib.Core.Path.{◌≡◌}
use Prim.Native.Nat.{◌*◌}
use lib.Bits.{bit_and}
use lib.ListN.{length}
use Rattle.octets.specs.Xor.{◌⊕◌}
use Rattle.octets.specs.Lists.{vec, view}
use Rattle.equations.specs.Put.{Put}
use Rattle.equations.proofs.add_masked.Given as goal

abbrev pub invariant-loop-i : goal.invariant-loop-i
invariant-loop-i l = (length l.t ≡ 192) × Put l.initial.t l.i (λ i. i) (λ i. vec l.initial.t i ⊕ bit_and (view l.m (192 * l.k) i) l.c) l.t
