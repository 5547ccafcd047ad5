-- An equation on all lanes: a row, the checker's value (algorithm 9), the signer's coefficients (algorithm 7). Assumes nothing.
use mathlib.Core.Path.{◌≡◌, refl, sym, ap, ap₂, ◌∙◌}
use mathlib.Core.List.{List}
use Prim.Native.Nat.{ℕ, suc, ◌+◌, ◌*◌, ◌%◌, ◌<◌}
use native.Mathlib.Nat.{zero-add, mod-lt}
use native.Mathlib.Omega.{arith}
use lib.Bits.{bit_and}
use lib.Dec.{lit<}
use lib.ListN.{replicate}
use Rattle.octets.specs.Xor.{◌⊕◌}
use Rattle.octets.specs.Lists.{vec, view, tab}
use Rattle.octets.proofs.Xor.{⊕-comm, ⊕-zero-l, ⊕-zero-r}
use Rattle.octets.proofs.Tab.{tab-ext, vec-tab}
use Rattle.field.specs.Gf.{◌⊗◌}
use Rattle.field.specs.Vec.{sum, mat, row_start}
use Rattle.field.proofs.Field.{⊗-⊕-l, ⊗-assoc, ⊗-zero-r, ⊗-one-l, ⊗-mod-r}
use Rattle.field.proofs.Sum.{sum-ext, sum-⊕}
use Rattle.field.proofs.Loops.{sum-start}
use Rattle.algebra.specs.Line.{equation_in, z_at}
use Rattle.algebra.proofs.Equation.{dot-⊕-l}
use Rattle.equations.specs.Lanes.{Masks, folded, row_on, OnLines}
use Rattle.equations.proofs.Rows.{sofar, vec-sofar, sofar-first, sofar-turn, sofar-end}
use Rattle.equations.proofs.Digits.{masked-fold}
use Rattle.equations.proofs.Horner.{fold_of, folded-sofar}
use Rattle.equations.proofs.Flat.{row_count}

-- what a list holds that is known as a `tab`
vec_of : (n : ℕ) (f : ℕ → ℕ) (t : List ℕ) → t ≡ tab n f → (l : ℕ) → l < n → vec t l ≡ f l
vec_of n f t e l h = ap (λ (x : List ℕ). vec x l) e ∙ vec-tab n f l h

-- ---- a coefficient times a vector, and a row

-- c under the masks of vector k
abbrev pub masked : List ℕ → ℕ → ℕ → ℕ → ℕ
masked m k c i = bit_and (view m (192 * k) i) c

-- the point's term of row j, and the first k of the others, under the masks
abbrev pub row_to : List ℕ → List ℕ → ℕ → ℕ → ℕ → List ℕ
row_to m q row j k = sofar 192 (masked m 56 (view q 1596 j)) (λ i. masked m i (view q row i)) k

module _ (m q : List ℕ) (row j : ℕ) where
  pub row_first : (a : List ℕ) → a ≡ tab 192 (λ i. vec (replicate 192 0) i ⊕ masked m 56 (view q 1596 j) i) → a ≡ row_to m q row j 0
  row_first a e = e ∙ sofar-first 192 (masked m 56 (view q 1596 j)) (λ i. masked m i (view q row i))

  pub row_more : (t a : List ℕ) (k : ℕ) → t ≡ row_to m q row j k
      → a ≡ tab 192 (λ i. vec t i ⊕ masked m k (view q row k) i) → a ≡ row_to m q row j (k + 1)
  row_more t a k p e =
      e ∙ sofar-turn 192 (masked m 56 (view q 1596 j)) (λ i. masked m i (view q row i)) t (masked m k (view q row k)) k p (λ i h. refl)

module _ (m : List ℕ) (v : ℕ → ℕ → ℕ) (masks : Masks m v) where
  pub scaled-is : (a : List ℕ) (k c : ℕ) → k < 57 → a ≡ tab 192 (λ i. vec (replicate 192 0) i ⊕ masked m k c i)
      → tab 24 (folded a) ≡ tab 24 (λ l. c ⊗ v k l)
  scaled-is a k c hk e =
      tab-ext 24 _ _
      (λ l h.
      folded-sofar a (masked m k c) (λ i l. 0) 0 (e ∙ sofar-first 192 (masked m k c) (λ i l. 0)) l h
      ∙ ap (fold_of (masked m k c) l ⊕◌) (sym (sum-start (λ i. fold_of (λ l. 0) l)))
      ∙ ⊕-zero-r (fold_of (masked m k c) l) ∙ masked-fold m v masks k l hk h c)

  pub row_is : (q a : List ℕ) (row j k : ℕ) → j < 56 → row ≡ row_start j → k ≡ suc j → a ≡ row_to m q row j k
      → tab 24 (folded a) ≡ tab 24 (row_on q v j)
  unfolding row_on
  row_is q a row j k hj er ek e =
      tab-ext 24 _ _
      (λ l h.
      folded-sofar a (masked m 56 (view q 1596 j)) (λ i. masked m i (view q row i)) k e l h
      ∙ ap (λ (n : ℕ). fold_of (masked m 56 (view q 1596 j)) l ⊕ sum n (λ i. fold_of (masked m i (view q row i)) l)) ek
      ∙ ap₂ ◌⊕◌
      (masked-fold m v masks 56 l (omega arith) h (view q 1596 j) ∙ ap (λ (o : ℕ). view q o j ⊗ v 56 l) (sym row_count ∙ sym (zero-add (row_start 56))))
      (sum-ext (suc j) _ _
      (λ i hi. masked-fold m v masks i l (omega arith) h (view q row i) ∙ ap (λ (o : ℕ). view q o i ⊗ v i l) (er ∙ sym (zero-add (row_start j)))))
      ∙ ⊕-comm _ _)

-- ---- all rows

module _ (q : List ℕ) (v : ℕ → ℕ → ℕ) where
  -- row j's part of the form, and of the cross term
  abbrev pub of_row : ℕ → ℕ → ℕ
  of_row j l = row_on q v j l ⊗ v j l

  abbrev pub of_cross : ℕ → ℕ → ℕ
  of_cross j l = (row_on q v j l ⊗ v j 17) ⊕ (row_on q v j 17 ⊗ v j l)

  -- y r r
  abbrev pub of_value : ℕ → ℕ → ℕ
  of_value y l = y ⊗ (v 56 l ⊗ v 56 l)

  pub eval-turn : (f : ℕ → ℕ) (z t a : List ℕ) (j : ℕ) → z ≡ sofar 24 f of_row j → t ≡ tab 24 (row_on q v j)
      → a ≡ tab 24 (λ l. vec z l ⊕ (vec t l ⊗ v j l)) → a ≡ sofar 24 f of_row (j + 1)
  eval-turn f z t a j e r p = p ∙ sofar-turn 24 f of_row z _ j e (λ l h. ap (◌⊗ v j l) (vec_of 24 (row_on q v j) t r l h))

  pub cross-turn : (f : ℕ → ℕ) (z t a : List ℕ) (j : ℕ) → z ≡ sofar 24 f of_cross j → t ≡ tab 24 (row_on q v j)
      → a ≡ tab 24 (λ l. vec z l ⊕ ((vec t l ⊗ v j 17) ⊕ (vec t 17 ⊗ v j l))) → a ≡ sofar 24 f of_cross (j + 1)
  cross-turn f z t a j e r p =
      p
      ∙ sofar-turn 24 f of_cross z _ j e
      (λ l h.
      ap₂ ◌⊕◌ (ap (◌⊗ v j 17) (vec_of 24 (row_on q v j) t r l h)) (ap (◌⊗ v j l) (vec_of 24 (row_on q v j) t r 17 (omega arith))))

  -- ---- the checker's value

  pub eval-start : (u a : List ℕ) (y : ℕ) → u ≡ tab 24 (λ l. y ⊗ v 56 l)
      → a ≡ tab 24 (λ l. vec (replicate 24 0) l ⊕ (vec u l ⊗ v 56 l)) → a ≡ sofar 24 (of_value y) of_row 0
  eval-start u a y e p =
      p
      ∙ tab-ext 24 _ _
      (λ l h. ap (vec (replicate 24 0) l ⊕◌) (ap (◌⊗ v 56 l) (vec_of 24 (λ l. y ⊗ v 56 l) u e l h) ∙ ⊗-assoc y (v 56 l) (v 56 l)))
      ∙ sofar-first 24 (of_value y) of_row

  pub eval-end : (z : List ℕ) (y j : ℕ) → j ≡ 56 → z ≡ sofar 24 (of_value y) of_row j
      → z ≡ tab 24 (λ l. z_at 56 (equation_in 56 q 0 y) (λ k. v k l) (v 56 l))
  unfolding row_on
  eval-end z y j h e = sofar-end 24 (of_value y) of_row z j 56 _ h e (λ l hl. ⊕-comm (of_value y l) (sum 56 (λ j. of_row j l)))

  -- ---- the signer's coefficients

  abbrev A : ℕ → ℕ → ℕ
  A = (equation_in 56 q 0 0).A

  abbrev b : ℕ → ℕ
  b = (equation_in 56 q 0 0).b

  -- a row where the point is 0
  row-at-zero : (l j : ℕ) → v 56 l ≡ 0 → row_on q v j l ≡ mat suc A (λ k. v k l) j
  unfolding row_on
  row-at-zero l j p =
      ap (λ (r : ℕ). mat suc A (λ k. v k l) j ⊕ (b j ⊗ r)) p ∙ ap (mat suc A (λ k. v k l) j ⊕◌) (⊗-zero-r (b j)) ∙ ⊕-zero-r _

  one-between : (c x : ℕ) → c ⊗ 1 ⊗ x ≡ c ⊗ x
  one-between c x =
      ⊗-assoc c 1 x ∙ ap (c ⊗◌) (sym (⊗-mod-r 1 x) ∙ ⊗-one-l (x % 256) (mod-lt x (lit< tt))) ∙ ⊗-mod-r c x

  -- and where it is 1
  row-at-one : (l j x : ℕ) → v 56 l ≡ 1 → row_on q v j l ⊗ x ≡ (mat suc A (λ k. v k l) j ⊕ b j) ⊗ x
  unfolding row_on
  row-at-one l j x p =
      ap (λ (r : ℕ). (mat suc A (λ k. v k l) j ⊕ (b j ⊗ r)) ⊗ x) p
      ∙ ⊗-⊕-l (mat suc A (λ k. v k l) j) (b j ⊗ 1) x
      ∙ ap ((mat suc A (λ k. v k l) j ⊗ x) ⊕◌) (one-between (b j) x)
      ∙ sym (⊗-⊕-l (mat suc A (λ k. v k l) j) (b j) x)

  module _ (f g : List ℕ) (j : ℕ) (h : j ≡ 56) (ef : f ≡ sofar 24 (λ l. 0) of_row j) (eg : g ≡ sofar 24 (λ l. 0) of_cross j) where
    -- a sum of 56 terms that starts from 0
    whole : (t : ℕ → ℕ → ℕ) (a : List ℕ) → a ≡ sofar 24 (λ l. 0) t j → (l : ℕ) → l < 24 → vec a l ≡ sum 56 (λ i. t i l)
    whole t a e l hl =
        ap (λ (x : List ℕ). vec x l) e ∙ vec-sofar 24 (λ l. 0) t j l hl ∙ ⊕-zero-l (sum j (λ i. t i l)) ∙ ap (λ (n : ℕ). sum n (λ i. t i l)) h

    pub lines_end : OnLines q v f g
    lines_end =
        record {
          z0-is = λ l hl p. whole of_row f ef l hl ∙ sum-ext 56 _ _ (λ j hj. ap (◌⊗ v j l) (row-at-zero l j p));
          z1-is =
              λ l hl p p'.
              whole of_cross g eg l hl ∙ sum-⊕ 56 (λ j. row_on q v j l ⊗ v j 17) (λ j. row_on q v j 17 ⊗ v j l)
              ∙ ap₂ ◌⊕◌ (sum-ext 56 _ _ (λ j hj. ap (◌⊗ v j 17) (row-at-zero l j p))) (sum-ext 56 _ _ (λ j hj. row-at-one 17 j (v j l) p'));
          own =
              λ p.
              whole of_row f ef 17 (omega arith) ∙ sum-ext 56 _ _ (λ j hj. row-at-one 17 j (v j 17) p)
              ∙ dot-⊕-l 56 (mat suc A (λ k. v k 17)) b (λ k. v k 17);
        }
