-- `seeds::hash_after` meets its contract. Assumes nothing.
use mathlib.Core.Path.{ap, ◌∙◌}
use mathlib.Core.List.{◌∷◌}
use Prim.Native.Nat.{ℕ}
use Rattle.seeds.proofs.Hash.{hash-flat}
use Rattle.seeds.specs.Purpose.{place_of}
use Rattle.seeds.proofs.hash_after.Goals as goal

pub returns : goal.returns
returns c =
    let a = c.args in
    c.xof_after.ensures ∙ hash-flat (place_of a.purpose) a.text.now _ (ap (λ (n : ℕ). n ∷ a.text.now) c.selector.ensures)
