-- 1 and ξ are a basis of K over F, by computed tests. Assumes nothing.
use mathlib.Core.Path.{◌≡◌, refl, sym, ap, ap₂, ◌∙◌, subst}
use mathlib.Core.List.{List, [], ◌∷◌}
use mathlib.Core.Bool.{Bool, true, false}
use Prim.Native.Nat.{ℕ, ◌*◌, ◌/◌, ◌%◌, ◌<◌, ◌≤◌, ◌^◌}
use native.Mathlib.Nat.{mod-lt, zero-lt-suc, mul-le-mul_right}
use native.Mathlib.Omega.{arith}
use lib.Dec.{T, eqb, eqb→eq, ltb, ltb→lt, lit<}
use borrow.Author.Tests.{eq-eqb, eqb-true}
use Rattle.octets.specs.Xor.{◌⊕◌}
use Rattle.octets.proofs.Xor.{⊕-swap, ⊕-self, ⊕-lt, ⊕-shr, ⊕-bit-times}
use Rattle.field.specs.Gf.{◌⊗◌, lift, mul_in, shift_add, times_root, rho_in_k}
use Rattle.field.proofs.Linear.{Additive, below2, below2-at, both, both_left, both_right, below, below_at, additive-agree}
use Rattle.algebra.specs.Pack.{pack, Independent, Basis}
use Rattle.algebra.proofs.Pack.{pack-⊕}

-- ---- independent

abbrev imp : Bool → Bool → Bool
imp true b = b
imp false b = true

independent-test : T (below2 16 16 (λ a b. imp (eqb (pack 1 2 a b) 0) (both (eqb a 0) (eqb b 0))))
unfolding lift rho_in_k ◌⊗◌ mul_in shift_add times_root ◌⊕◌
independent-test = tt

pub one-root-independent : Independent 1 2
one-root-independent a b ha hb e =
    split (eqb a 0) refl
    (subst (λ (t : Bool). T (imp t (both (eqb a 0) (eqb b 0)))) (eq-eqb (pack 1 2 a b) 0 e)
    (below2-at 16 16 (λ a b. imp (eqb (pack 1 2 a b) 0) (both (eqb a 0) (eqb b 0))) independent-test a b ha hb))
  where
    split : (t : Bool) → eqb a 0 ≡ t → T (both t (eqb b 0)) → (a ≡ 0) × (b ≡ 0)
    split true q p = (eqb-true a 0 q, eqb→eq b 0 p)
    split false q p = absurd p

-- ---- the coordinates, by those of 1, ξ, .. ξ^7

-- the sum of the elements of c at which e has a digit 1
unfoldable pub digits : List ℕ → ℕ → ℕ
digits [] e = 0
digits (c ∷ cs) e = (e % 2 * c) ⊕ digits cs (e / 2)

unfoldable pub low_part : ℕ → ℕ
low_part e = digits (1 ∷ 0 ∷ 7 ∷ 8 ∷ 8 ∷ 3 ∷ 2 ∷ 3 ∷ []) e

unfoldable pub high_part : ℕ → ℕ
high_part e = digits (0 ∷ 1 ∷ 5 ∷ 5 ∷ 10 ∷ 12 ∷ 10 ∷ 6 ∷ []) e

digits-⊕ : (c : List ℕ) → Additive (digits c)
unfolding digits
digits-⊕ [] a b = sym (⊕-self 0)
digits-⊕ (c ∷ cs) a b =
    ap₂ ◌⊕◌ (⊕-bit-times a b c) (ap (digits cs) (⊕-shr 1 a b) ∙ digits-⊕ cs (a / 2) (b / 2))
    ∙ ⊕-swap (a % 2 * c) (b % 2 * c) (digits cs (a / 2)) (digits cs (b / 2))

low-⊕ : Additive low_part
unfolding low_part
low-⊕ = digits-⊕ _

high-⊕ : Additive high_part
unfolding high_part
high-⊕ = digits-⊕ _

parts-test : T (below 8 (λ i. eqb (pack 1 2 (low_part (2 ^ i)) (high_part (2 ^ i))) (2 ^ i)))
unfolding low_part high_part digits lift rho_in_k ◌⊗◌ mul_in shift_add times_root ◌⊕◌
parts-test = tt

-- an element is its coordinates, packed
pub parts : (a : ℕ) → a < 256 → pack 1 2 (low_part a) (high_part a) ≡ a
parts =
    additive-agree (λ a. pack 1 2 (low_part a) (high_part a)) (λ a. a)
    (λ a b. ap₂ (pack 1 2) (low-⊕ a b) (high-⊕ a b) ∙ pack-⊕ 1 2 (low_part a) (high_part a) (low_part b) (high_part b))
    (λ a b. refl) 8
    (λ i hi. eqb→eq _ _ (below_at 8 (λ i. eqb (pack 1 2 (low_part (2 ^ i)) (high_part (2 ^ i))) (2 ^ i)) parts-test i hi))

-- a sum of elements of F is one
small : List ℕ → Bool
small [] = true
small (c ∷ cs) = both (ltb c 16) (small cs)

digits_lt : (c : List ℕ) → T (small c) → (e : ℕ) → digits c e < 16
unfolding digits small
digits_lt [] t e = lit< tt
digits_lt (c ∷ cs) t e =
    ⊕-lt 4 (bit-times-lt (e % 2) c (mod-lt e (zero-lt-suc 1)) (ltb→lt c 16 (both_left (ltb c 16) (small cs) t)))
    (digits_lt cs (both_right (ltb c 16) (small cs) t) (e / 2))
  where
    bit-times-lt : (x c : ℕ) → x < 2 → c < 16 → x * c < 16
    bit-times-lt x c hx hc = omega (arith, mul-le-mul_right c one)
      where
        one : x ≤ 1
        one = omega arith

pub low-lt : (a : ℕ) → low_part a < 16
unfolding low_part small
low-lt a = digits_lt _ tt a

pub high_lt : (a : ℕ) → high_part a < 16
unfolding high_part small
high_lt a = digits_lt _ tt a

abbrev pub one-root-basis : Basis 1 2
one-root-basis =
    record {
      independent = one-root-independent;
      first = low_part;
      second = high_part;
      first-lt = low-lt;
      second_lt = high_lt;
      spans = parts;
    }
