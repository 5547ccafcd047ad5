-- The rows of a triangular matrix, one after the other, as one list; an equation's value as one sum. Assumes nothing.
use mathlib.Core.Path.{◌≡◌, refl, sym, ap, ap₂, ◌∙◌}
use mathlib.Core.List.{List}
use Prim.Native.Nat.{ℕ, zero, suc, ◌+◌, ◌*◌, ◌<◌, ◌≤◌}
use native.Mathlib.Nat.{zero-add, mul-suc, suc-mul}
use native.Mathlib.Numerals.{add-one}
use native.Mathlib.Omega.{arith}
use borrow.Author.Count.{below_more}
use lib.ListN.{length}
use Rattle.octets.specs.Xor.{◌⊕◌}
use Rattle.octets.specs.Lists.{vec, tab}
use Rattle.octets.proofs.Tab.{vec-tab}
use Rattle.field.specs.Gf.{◌⊗◌}
use Rattle.field.specs.Vec.{sum, dot, row_start}
use Rattle.field.proofs.Field.{⊗-assoc}
use Rattle.field.proofs.Sum.{sum-ext, sum-add, sum-⊗-r}
use Rattle.field.proofs.Loops.{row_fits}
use Rattle.algebra.specs.Line.{form, equation_in}
use Rattle.equations.specs.Put.{Put, Monomials}

pub row_count : row_start 56 ≡ 1596
unfolding row_start
row_count = refl

row_double : (j : ℕ) → row_start j + row_start j ≡ j * suc j
unfolding row_start
row_double zero = refl
row_double (suc j) = omega (arith, row_double j, mul-suc (suc j) (suc j), suc-mul j (suc j))

pub row_half : (j : ℕ) → j * (j + 1) ≡ row_start j + row_start j
row_half j = ap (j *◌) (add-one j) ∙ sym (row_double j)

-- row j ends before b starts
pub row_room : (j : ℕ) → j < 56 → row_start j + (j + 1) ≤ 1596
row_room j h = omega (arith, row_fits j 56 h, row_count)

pub flat_rows : (n : ℕ) (f : ℕ → ℕ) → sum (row_start n) f ≡ sum n (λ j. sum (suc j) (λ k. f (row_start j + k)))
unfolding sum row_start
flat_rows zero f = refl
flat_rows (suc n) f = sum-add (row_start n) (suc n) f ∙ ap (◌⊕ sum (suc n) (λ k. f (row_start n + k))) (flat_rows n f)

module _ (q w : List ℕ) (x : ℕ → ℕ) (h : Monomials x w) where
  -- row j of the sum
  flat-row : (j : ℕ) → j < 56
      → sum (suc j) (λ k. vec q (row_start j + k) ⊗ vec w (row_start j + k)) ≡ sum (suc j) (λ k. vec q (0 + row_start j + k) ⊗ x k) ⊗ x j
  flat-row j hj =
      sum-ext (suc j) _ _
      (λ k hk.
      ap₂ ◌⊗◌ (ap (λ (o : ℕ). vec q (o + k)) (sym (zero-add (row_start j)))) (h.pairs j k hj hk)
      ∙ sym (⊗-assoc (vec q (0 + row_start j + k)) (x k) (x j)))
      ∙ sum-⊗-r (suc j) (x j) (λ k. vec q (0 + row_start j + k) ⊗ x k)

  pub flat-form : dot (row_start 56 + 56) (vec q) (vec w) ≡ form 56 (equation_in 56 q 0 0) x
  flat-form =
      sum-add (row_start 56) 56 (λ i. vec q i ⊗ vec w i)
      ∙ ap₂ ◌⊕◌
      (flat_rows 56 (λ i. vec q i ⊗ vec w i) ∙ sum-ext 56 _ _ flat-row)
      (sum-ext 56 _ _ (λ j hj. ap₂ ◌⊗◌ (ap (λ (o : ℕ). vec q (o + j)) (sym (zero-add (row_start 56)))) (h.ones j hj)))

pub flat-value : (q w : List ℕ) (x : ℕ → ℕ) → length q ≡ 1652 → Monomials x w → dot (length q) (vec q) (vec w) ≡ form 56 (equation_in 56 q 0 0) x
flat-value q w x e h = ap (λ (n : ℕ). dot n (vec q) (vec w)) (e ∙ ap (λ (n : ℕ). n + 56) (sym row_count)) ∙ flat-form q w x h

-- ---- the monomials, row by row

-- the first n rows of the monomials stand in w, and behind all rows the unknowns
pub record Filled (x : ℕ → ℕ) (n : ℕ) (w : List ℕ) : Type 0 where
  pub pairs : (j k : ℕ) → j < n → k < suc j → vec w (row_start j + k) ≡ x k ⊗ x j
  pub ones : (j : ℕ) → j < 56 → vec w (row_start 56 + j) ≡ x j

pub filled-start : (x : ℕ → ℕ) (d w : List ℕ) → Put d 56 (λ k. 1596 + k) x w → Filled x 0 w
filled-start x d w p =
    record { pairs = λ j k h. absurd (omega arith); ones = λ j h. ap (λ (n : ℕ). vec w (n + j)) row_count ∙ p.here j h }

pub filled-turn : (x : ℕ → ℕ) (j : ℕ) (w w' : List ℕ) → j < 56 → Filled x j w
    → Put w (suc j) (λ k. row_start j + k) (λ k. x k ⊗ x j) w' → Filled x (j + 1) w'
filled-turn x j w w' hj f p =
    record {
      pairs =
          λ i k hi hk.
          below_more (λ (i : ℕ). (k : ℕ) → k < suc i → vec w' (row_start i + k) ≡ x k ⊗ x i) j
          (λ i hi k hk. p.others (row_start i + k) (λ n hn q. omega (arith, row_fits i j hi)) ∙ f.pairs i k hi hk)
          (λ k hk. p.here k hk)
          i hi k hk;
      ones = λ i hi. p.others (row_start 56 + i) (λ n hn q. omega (arith, row_room j hj, row_count)) ∙ f.ones i hi;
    }

pub filled-end : (x : ℕ → ℕ) (u w : List ℕ) (j : ℕ) → 56 ≤ j → u ≡ tab 56 x → Filled (vec u) j w → Monomials x w
filled-end x u w j h e f =
    record {
      pairs = λ i k hi hk. f.pairs i k (omega arith) hk ∙ ap₂ ◌⊗◌ (at k (omega arith)) (at i hi);
      ones = λ i hi. f.ones i hi ∙ at i hi;
    }
  where
    at : (i : ℕ) → i < 56 → vec u i ≡ x i
    at i hi = ap (λ (l : List ℕ). vec l i) e ∙ vec-tab 56 x i hi
