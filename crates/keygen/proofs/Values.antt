-- The values of a key's equations, one after the other. Assumes nothing.
use mathlib.Core.Path.{◌≡◌, sym}
use mathlib.Core.List.{List, []}
use Prim.Native.Nat.{ℕ, ◌<◌}
use Rattle.octets.specs.Lists.{vec}
use Rattle.octets.proofs.Tab.{vec-tab}
use Rattle.field.specs.Vec.{lifted}
use Rattle.algebra.specs.Line.{form, equation_in}
use Rattle.paper.specs.Keys.{rows, equation, values_at}

pub value-is : (m x : List ℕ) (i : ℕ) → i < 28 → form 56 (equation_in 56 (rows m i) 0 0) (lifted x) ≡ vec (values_at m x) i
unfolding values_at equation
value-is m x i h = sym (vec-tab 28 (λ i. form 56 (equation m [] i) (lifted x)) i h)
