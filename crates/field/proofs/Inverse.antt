-- Each element of K but 0 has an inverse, by a computed test at the 256 elements; so K has no zero divisors.
-- Assumes nothing.
use mathlib.Core.Path.{◌≡◌, sym, ap, ◌∙◌, subst}
use mathlib.Core.Bool.{Bool, true, false}
use Prim.Native.Nat.{ℕ, ◌<◌}
use lib.Dec.{T, eqb, eqb→eq}
use borrow.Author.Tests.{ne_eqb}
use Rattle.octets.specs.Xor.{◌⊕◌}
use Rattle.field.specs.Gf.{◌⊗◌, mul_in, shift_add, times_root}
use Rattle.field.specs.Inverse.{inverses, inverse}
use Rattle.field.proofs.Linear.{below, below_at}
use Rattle.field.proofs.Field.{⊗-assoc, ⊗-zero-r, ⊗-one-l}

abbrev or : Bool → Bool → Bool
or true b = true
or false b = b

inverse-test : T (below 256 (λ a. or (eqb a 0) (eqb (inverse a ⊗ a) 1)))
unfolding inverse inverses ◌⊗◌ mul_in shift_add times_root ◌⊕◌
inverse-test = tt

pub inverse-l : (a : ℕ) → a < 256 → (a ≡ 0 → ⊥) → inverse a ⊗ a ≡ 1
inverse-l a h ne =
    eqb→eq (inverse a ⊗ a) 1
    (subst (λ (t : Bool). T (or t (eqb (inverse a ⊗ a) 1))) (ne_eqb a 0 ne)
    (below_at 256 (λ a. or (eqb a 0) (eqb (inverse a ⊗ a) 1)) inverse-test a h))

pub no-divisor : (a b : ℕ) → a < 256 → b < 256 → (a ≡ 0 → ⊥) → a ⊗ b ≡ 0 → b ≡ 0
no-divisor a b ha hb ne e =
    sym (⊗-one-l b hb) ∙ ap (◌⊗ b) (sym (inverse-l a ha ne)) ∙ ⊗-assoc (inverse a) a b ∙ ap (inverse a ⊗◌) e ∙ ⊗-zero-r (inverse a)
