-- `checker::rest_at` meets its contract. Assumes nothing.
use mathlib.Core.Path.{◌≡◌, ap, ◌∙◌}
use Prim.Native.Nat.{ℕ}
use native.Mathlib.Omega.{arith}
use lib.ListN.{length}
use Rattle.octets.specs.Xor.{◌⊕◌}
use Rattle.octets.specs.Lists.{vec, tab}
use Rattle.field.specs.Gf.{◌⊗◌}
use Rattle.checker.specs.State.{rest_of}
use Rattle.checker.proofs.rest_at.Goals as goal

pub returns : goal.returns
unfolding rest_of
returns c =
    let s = c.args in
    let n : length s.u ≡ 28 = omega arith in
    c.add_scaled.ensures ∙ ap (λ (k : ℕ). tab k (λ j. vec s.u j ⊕ (s.r ⊗ vec s.alpha1.now j))) n
