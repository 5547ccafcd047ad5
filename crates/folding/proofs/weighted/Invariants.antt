-- `folding::weighted` meets its contract. Assumes nothing.
use Rattle.std.proofs.Common.{◌≡◌, ℕ, ◌^◌, ◌<◌}
use Rattle.octets.specs.Xor.{◌⊕◌}
use Rattle.field.specs.Gf.{◌⊗◌}
use Rattle.folding.proofs.Horner.{based}
use Rattle.folding.proofs.weighted.Given as goal

abbrev pub invariant-loop-j : goal.invariant-loop-j
invariant-loop-j t l =
    (l.r < 256)
    × ((g : ℕ → ℕ) → ((j x : ℕ) → j < 8 → goal.F-post t l.row j x → x ≡ g j) → based l.j g ⊕ ((2 ^ l.j) ⊗ l.r) ≡ based 8 g)
