-- `alike` decides equality, and a loop that compares two lists element by element. Assumes nothing.
use mathlib.Core.Path.{◌≡◌, refl, sym, ap, ap₂, ◌∙◌}
use mathlib.Core.List.{List, [], ◌∷◌}
use mathlib.Core.Bool.{Bool, true, false, ◌&&◌}
use Prim.Native.Nat.{ℕ, ◌+◌, ◌<◌, ◌≤◌}
use native.Mathlib.Omega.{arith}
use lib.Dec.{eqb}
use lib.Bits.{bit_and, bit_or, bit_xor, or_add_and, and_le_l, and_le_r, xor_self}
use borrow.Author.Count.{below_more}
use borrow.Author.Tests.{eq-eqb, eqb-true, eqb-false}
use lib.ListN.{length}
use lib.Seq.{ext_get_or}
use Rattle.std.specs.Cmp.{both_ways}
use Rattle.std.specs.List.{fold, zip}
use Rattle.std.proofs.lemmas.Bool.{and_parts, and_from}
use Rattle.std.proofs.Math.Bool.{and-true, and_assoc}
use Rattle.octets.specs.Lists.{vec, alike}
use Rattle.octets.proofs.Xor.{⊕-eq, xor-is-⊕}

pub alike_refl : (a : List ℕ) → alike a a ≡ true
unfolding alike
alike_refl [] = refl
alike_refl (x ∷ a) = ap₂ ◌&&◌ (eq-eqb x x refl) (alike_refl a)

pub alike_of : (a b : List ℕ) → a ≡ b → alike a b ≡ true
alike_of a b e = ap (alike a) (sym e) ∙ alike_refl a

pub alike-eq : (a b : List ℕ) → alike a b ≡ true → a ≡ b
unfolding alike
alike-eq [] [] h = refl
alike-eq [] (y ∷ b) h = cc
alike-eq (x ∷ a) [] h = cc
alike-eq (x ∷ a) (y ∷ b) h = let p = and_parts (eqb x y) (alike a b) h in ap₂ ◌∷◌ (eqb-true x y p.0) (alike-eq a b p.1)

-- what is not equal
pub alike-ne : (a b : List ℕ) → (a ≡ b → ⊥) → alike a b ≡ false
alike-ne a b h = go (alike a b) refl
  where
    go : (t : Bool) → alike a b ≡ t → alike a b ≡ false
    go true e = absurd (h (alike-eq a b e))
    go false e = e

pub alike-lengths : (a b : List ℕ) → (length a ≡ length b → ⊥) → alike a b ≡ false
alike-lengths a b h = alike-ne a b (λ e. h (ap length e))

-- ---- the digits in which two lists differ, gathered pair by pair

abbrev pub differ : ℕ → ℕ × ℕ → ℕ
differ d p = bit_or d (bit_xor p.0 p.1)

or_zero : (a b : ℕ) → bit_or a b ≡ 0 → (a ≡ 0) × (b ≡ 0)
or_zero a b e = (omega (arith, e, or_add_and a b, and_le_l a b, and_le_r a b), omega (arith, e, or_add_and a b, and_le_l a b, and_le_r a b))

differ-zero : (d x y : ℕ) → eqb (differ d (x, y)) 0 ≡ (eqb d 0 && eqb x y)
differ-zero d x y = both_ways _ _ there back
  where
    there : eqb (differ d (x, y)) 0 ≡ true → (eqb d 0 && eqb x y) ≡ true
    there e =
        let z = or_zero d (bit_xor x y) (eqb-true _ 0 e) in
        and_from (eqb d 0) (eqb x y) (eq-eqb d 0 z.0) (eq-eqb x y (⊕-eq x y (sym (xor-is-⊕ x y) ∙ z.1)))

    back : (eqb d 0 && eqb x y) ≡ true → eqb (differ d (x, y)) 0 ≡ true
    back e =
        let p = and_parts (eqb d 0) (eqb x y) e in
        eq-eqb _ 0 (ap₂ bit_or (eqb-true d 0 p.0) (ap (λ (z : ℕ). bit_xor z y) (eqb-true x y p.1) ∙ xor_self y))

pub differ-alike : (a b : List ℕ) (d : ℕ) → length a ≡ length b → eqb (fold differ d (zip a b)) 0 ≡ (eqb d 0 && alike a b)
unfolding alike
differ-alike [] [] d h = sym (and-true (eqb d 0))
differ-alike [] (y ∷ b) d h = absurd (omega arith)
differ-alike (x ∷ a) [] d h = absurd (omega arith)
differ-alike (x ∷ a) (y ∷ b) d h =
    differ-alike a b (differ d (x, y)) (omega arith) ∙ ap (λ (t : Bool). t && alike a b) (differ-zero d x y) ∙ and_assoc (eqb d 0) (eqb x y) (alike a b)

-- ---- a loop that gathers in d the digits in which a and b differ before place i

pub record Gathered (a b : List ℕ) (i d : ℕ) : Type 0 where
  pub none : d ≡ 0 → (k : ℕ) → k < i → vec a k ≡ vec b k
  pub zero-if : ((k : ℕ) → k < i → vec a k ≡ vec b k) → d ≡ 0

pub gathered-start : (a b : List ℕ) → Gathered a b 0 0
gathered-start a b = record { none = λ e k h. absurd (omega arith); zero-if = λ h. refl }

pub gathered-turn : (a b : List ℕ) (i d : ℕ) → Gathered a b i d → Gathered a b (i + 1) (bit_or d (bit_xor (vec a i) (vec b i)))
gathered-turn a b i d g =
    record {
      none =
          λ e. below_more (λ (k : ℕ). vec a k ≡ vec b k) i (g.none (omega (arith, sums, left))) (⊕-eq (vec a i) (vec b i) (sym (xor-is-⊕ (vec a i) (vec b i)) ∙ omega (arith, sums, right)));
      zero-if =
          λ h.
          ap₂ bit_or (g.zero-if (λ k l. h k (omega arith))) (ap (λ (x : ℕ). bit_xor x (vec b i)) (h i (omega arith)) ∙ xor_self (vec b i));
    }
  where
    sums : bit_or d (bit_xor (vec a i) (vec b i)) + bit_and d (bit_xor (vec a i) (vec b i)) ≡ d + bit_xor (vec a i) (vec b i)
    sums = or_add_and d (bit_xor (vec a i) (vec b i))

    left : bit_and d (bit_xor (vec a i) (vec b i)) ≤ bit_xor (vec a i) (vec b i)
    left = and_le_r d (bit_xor (vec a i) (vec b i))

    right : bit_and d (bit_xor (vec a i) (vec b i)) ≤ d
    right = and_le_l d (bit_xor (vec a i) (vec b i))

pub gathered-end : (a b : List ℕ) (i d : ℕ) → length a ≡ length b → length a ≤ i → Gathered a b i d → eqb d 0 ≡ alike a b
gathered-end a b i d l h g = go (eqb d 0) refl
  where
    go : (t : Bool) → eqb d 0 ≡ t → eqb d 0 ≡ alike a b
    go true e = e ∙ sym (alike_of a b (ext_get_or 0 a b l (λ k hk. g.none (eqb-true d 0 e) k (omega arith))))
    go false e = e ∙ sym (alike-ne a b (λ p. eqb-false d 0 e (g.zero-if (λ k hk. ap (λ (s : List ℕ). vec s k) p))))
