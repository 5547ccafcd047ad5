-- Additive functions: two that agree at 1, 2, 4, .. agree. So an equation that is additive in each of its variables is shown by a computed
-- test at the powers of two.
-- Assumes nothing.
use mathlib.Core.Path.{◌≡◌, refl, sym, ap, ap₂, ◌∙◌, subst}
use mathlib.Core.Bool.{Bool, true, false}
use Prim.Native.Nat.{ℕ, zero, suc, ◌*◌, ◌/◌, ◌%◌, ◌^◌, ◌<◌}
use native.Mathlib.Nat.{mod-lt, zero-mul, one-mul, le_of_suc-le-suc, not-suc-le-zero, div-lt_iff_lt-mul, pow-suc, mul_comm}
use native.Mathlib.Omega.{arith}
use lib.Arith.{lt-one}
use lib.Pow.{pow_pos}
use lib.Dec.{T, eqb, eqb→eq}
use borrow.Author.Tests.{eqb-true, eqb-false}
use Rattle.octets.specs.Xor.{◌⊕◌}
use Rattle.octets.proofs.Xor.{⊕-self, ⊕-split, ⊕-swap, ⊕-cancel-self}

abbrev pub Additive : (ℕ → ℕ) → Type 0
Additive f = (a b : ℕ) → f (a ⊕ b) ≡ f a ⊕ f b

-- ---- a test at each number below n

abbrev pub both : Bool → Bool → Bool
both true b = b
both false b = false

pub both_left : (a b : Bool) → T (both a b) → T a
both_left true b t = tt
both_left false b t = t

pub both_right : (a b : Bool) → T (both a b) → T b
both_right true b t = t
both_right false b t = absurd t

abbrev pub below : ℕ → (ℕ → Bool) → Bool
below zero p = true
below (suc n) p = both (p n) (below n p)

pub below_at : (n : ℕ) (p : ℕ → Bool) → T (below n p) → (i : ℕ) → i < n → T (p i)
below_at zero p t i h = absurd (not-suc-le-zero h)
below_at (suc n) p t i h = go (below_at n p (both_right (p n) (below n p) t) i) (eqb i n) refl
  where
    go : (i < n → T (p i)) → (b : Bool) → eqb i n ≡ b → T (p i)
    go rec true e = subst (λ (m : ℕ). T (p m)) (sym (eqb-true i n e)) (both_left (p n) (below n p) t)
    go rec false e = let ne : i ≡ n → ⊥ = eqb-false i n e in rec (omega arith)

-- the same at each two numbers below n and m
abbrev pub below2 : ℕ → ℕ → (ℕ → ℕ → Bool) → Bool
below2 n m p = below n (λ i. below m (p i))

pub below2-at : (n m : ℕ) (p : ℕ → ℕ → Bool) → T (below2 n m p) → (i j : ℕ) → i < n → j < m → T (p i j)
below2-at n m p t i j hi hj = below_at m (p i) (below_at n (λ x. below m (p x)) t i hi) j hj

-- ---- additive functions

pub additive-zero : (f : ℕ → ℕ) → Additive f → f 0 ≡ 0
additive-zero f h = sym (⊕-cancel-self (f 0) (f 0)) ∙ ap (λ (x : ℕ). f 0 ⊕ x) (sym (h 0 0)) ∙ ap (λ (x : ℕ). f 0 ⊕ f x) (⊕-self 0) ∙ ⊕-self (f 0)

-- f (x * a) at a digit x
pub additive-bit : (f : ℕ → ℕ) → Additive f → (x a : ℕ) → x < 2 → f (x * a) ≡ x * f a
additive-bit f h zero a hx = ap f (zero-mul a) ∙ additive-zero f h ∙ sym (zero-mul (f a))
additive-bit f h (suc zero) a hx = ap f (one-mul a) ∙ sym (one-mul (f a))
additive-bit f h (suc (suc x)) a hx = absurd (not-suc-le-zero (le_of_suc-le-suc (le_of_suc-le-suc hx)))

-- the sum of two additive functions is additive
pub additive-⊕ : (f g : ℕ → ℕ) → Additive f → Additive g → Additive (λ a. f a ⊕ g a)
additive-⊕ f g hf hg a b = ap₂ ◌⊕◌ (hf a b) (hg a b) ∙ ⊕-swap (f a) (f b) (g a) (g b)

module _ (f g : ℕ → ℕ) (hf : Additive f) (hg : Additive g) where
  pub additive-agree : (n : ℕ) → ((i : ℕ) → i < n → f (2 ^ i) ≡ g (2 ^ i)) → (a : ℕ) → a < 2 ^ n → f a ≡ g a
  additive-agree zero h a ha = ap f (lt-one ha) ∙ additive-zero f hf ∙ sym (additive-zero g hg) ∙ ap g (sym (lt-one ha))
  additive-agree (suc n) h a ha =
      ap f (⊕-split n a) ∙ hf (a / 2 ^ n * 2 ^ n) (a % 2 ^ n)
      ∙ ap₂ ◌⊕◌
      (additive-bit f hf (a / 2 ^ n) (2 ^ n) top ∙ ap (λ (x : ℕ). a / 2 ^ n * x) (h n (omega arith)) ∙ sym (additive-bit g hg (a / 2 ^ n) (2 ^ n) top))
      (additive-agree n (λ i hi. h i (omega arith)) (a % 2 ^ n) (mod-lt a (pow_pos n)))
      ∙ sym (hg (a / 2 ^ n * 2 ^ n) (a % 2 ^ n)) ∙ ap g (sym (⊕-split n a))
    where
      top : a / 2 ^ n < 2
      top = (div-lt_iff_lt-mul (pow_pos n)).1 (subst (λ (x : ℕ). a < x) (pow-suc 2 n ∙ mul_comm (2 ^ n) 2) ha)

-- two functions that are additive in each of two variables agree where the test at the powers of two passes
module _ (f g : ℕ → ℕ → ℕ) where
  abbrev pub agree2 : ℕ → ℕ → Bool
  agree2 n m = below2 n m (λ i j. eqb (f (2 ^ i) (2 ^ j)) (g (2 ^ i) (2 ^ j)))

  module _ (fl : (b : ℕ) → Additive (λ a. f a b)) (fr : (a : ℕ) → Additive (f a))
      (gl : (b : ℕ) → Additive (λ a. g a b)) (gr : (a : ℕ) → Additive (g a)) where
    pub biadditive-agree : (n m : ℕ) → T (agree2 n m) → (a b : ℕ) → a < 2 ^ n → b < 2 ^ m → f a b ≡ g a b
    biadditive-agree n m t a b ha hb =
        additive-agree (λ x. f x b) (λ x. g x b) (fl b) (gl b) n
        (λ i hi.
        additive-agree (f (2 ^ i)) (g (2 ^ i)) (fr (2 ^ i)) (gr (2 ^ i)) m
        (λ j hj.
        eqb→eq (f (2 ^ i) (2 ^ j)) (g (2 ^ i) (2 ^ j))
        (below2-at n m (λ x y. eqb (f (2 ^ x) (2 ^ y)) (g (2 ^ x) (2 ^ y))) t i j hi hj))
        b hb)
        a ha
