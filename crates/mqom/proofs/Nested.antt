-- Nested tests: the number of an outcome that is asked for test by test. Assumes nothing.
use mathlib.Core.Path.{◌≡◌, refl}
use mathlib.Core.Logic.{◌↔◌, ◌≢◌}
use mathlib.Core.Bool.{Bool, true, false, false≢true}
use Prim.Native.Nat.{ℕ, ◌≤◌}
use lib.Dec.{leb}
use borrow.Author.Tests.{leb-true, le-leb}
use Rattle.std.specs.Bool.{Decides}
use Rattle.mqom.specs.Outcome.{Outcome, number_of, unless}

-- ---- a test and the fact that it decides

pub Decides-leb : (a b : ℕ) → Decides (leb a b) (a ≤ b)
Decides-leb a b = (leb-true a b, le-leb a b)

-- ---- outcomes

module _ {A : Type 0} where
  pub goes_on : {P : Type 0} (t : Bool) (end on : Outcome A) → Decides t P → P → unless t end on ≡ on
  goes_on true end on p h = refl
  goes_on false end on p h = absurd (false≢true (p.1 h))

  pub ends-here : {P : Type 0} (t : Bool) (end on : Outcome A) → Decides t P → ¬ P → unless t end on ≡ end
  ends-here true end on p h = absurd (h (p.0 refl))
  ends-here false end on p h = refl

  -- what holds of both outcomes holds of the one that is given, and so for their numbers
  pub both : (P : Outcome A → Type 0) (t : Bool) (end on : Outcome A) → P end → P on → P (unless t end on)
  both P true end on a b = b
  both P false end on a b = a

  pub either : (P : ℕ → Type 0) (t : Bool) (end on : Outcome A) → P (number_of end) → P (number_of on) → P (number_of (unless t end on))
  either P = both (λ o. P (number_of o))

  -- number n is given here exactly when the test fails, if nothing later gives n
  pub exactly-here : {P : Type 0} (n : ℕ) (t : Bool) (end on : Outcome A) → Decides t P → number_of end ≡ n → number_of on ≢ n
      → (number_of (unless t end on) ≡ n) ↔ ¬ P
  exactly-here n true end on p e later = (λ h. absurd (later h), λ h. absurd (h (p.0 refl)))
  exactly-here n false end on p e later = (λ h k. false≢true (p.1 k), λ h. e)

  -- and later exactly when the test holds and number n is given there, if it is not given here
  pub exactly-later : {P Q : Type 0} (n : ℕ) (t : Bool) (end on : Outcome A) → Decides t P → number_of end ≢ n → (number_of on ≡ n) ↔ Q
      → (number_of (unless t end on) ≡ n) ↔ (P × Q)
  exactly-later n true end on p ne q = (λ h. (p.0 refl, q.0 h), λ h. q.1 h.1)
  exactly-later n false end on p ne q = (λ h. absurd (ne h), λ h. absurd (false≢true (p.1 h.0)))

  -- the last test: n is given past it exactly when it holds
  pub exactly-end : {P : Type 0} (n : ℕ) (t : Bool) (end on : Outcome A) → Decides t P → number_of end ≢ n → number_of on ≡ n
      → (number_of (unless t end on) ≡ n) ↔ P
  exactly-end n true end on p ne e = (λ h. p.0 refl, λ h. e)
  exactly-end n false end on p ne e = (λ h. absurd (ne h), λ h. absurd (false≢true (p.1 h)))
