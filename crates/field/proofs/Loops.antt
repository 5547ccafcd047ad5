-- A loop that adds up, sums of products of two lists, pair by pair, and the rows of a matrix.
-- Assumes nothing.
use mathlib.Core.Path.{◌≡◌, refl, sym, ap, ap₂, ◌∙◌, subst}
use mathlib.Core.List.{List, [], ◌∷◌}
use Prim.Native.Nat.{ℕ, zero, suc, ◌+◌, ◌*◌, ◌<◌, ◌≤◌}
use native.Mathlib.Nat.{not-suc-le-zero, mul-le-mul_right}
use native.Mathlib.Numerals.{add-one}
use native.Mathlib.Omega.{arith}
use lib.Bits.{bit_xor}
use lib.ListN.{length}
use Rattle.std.specs.List.{fold, zip}
use Rattle.octets.specs.Lists.{vec}
use Rattle.octets.specs.Xor.{◌⊕◌}
use Rattle.octets.proofs.Xor.{⊕-assoc, ⊕-zero-l, ⊕-zero-r, xor-is-⊕}
use Rattle.field.specs.Gf.{◌⊗◌}
use Rattle.field.specs.Vec.{sum, dot, row_start}

pub sum-start : (f : ℕ → ℕ) → 0 ≡ sum 0 f
unfolding sum
sum-start f = refl

pub sum-turn : (i r x : ℕ) (f : ℕ → ℕ) → r ≡ sum i f → x ≡ f i → bit_xor r x ≡ sum (i + 1) f
unfolding sum ◌⊕◌
sum-turn i r x f p q = ap₂ bit_xor p q ∙ ap (λ (k : ℕ). sum k f) (sym (add-one i))

pub sum-end : (i n r : ℕ) (f : ℕ → ℕ) → i ≤ n → n ≤ i → r ≡ sum i f → r ≡ sum n f
sum-end i n r f h k p = p ∙ ap (λ (k : ℕ). sum k f) same
  where
    same : i ≡ n
    same = omega arith

sum-first : (n : ℕ) (f : ℕ → ℕ) → sum (suc n) f ≡ f 0 ⊕ sum n (λ i. f (suc i))
unfolding sum
sum-first zero f = ⊕-zero-l (f 0) ∙ sym (⊕-zero-r (f 0))
sum-first (suc n) f = ap (λ (x : ℕ). x ⊕ f (suc n)) (sum-first n f) ∙ ⊕-assoc (f 0) (sum n (λ i. f (suc i))) (f (suc n))

-- the sum of the products of two lists, pair by pair
abbrev pub add_product : ℕ → ℕ × ℕ → ℕ
add_product r p = bit_xor r (p.0 ⊗ p.1)

products-more : (a b : List ℕ) (r : ℕ) → length a ≡ length b → fold add_product r (zip a b) ≡ r ⊕ dot (length a) (vec a) (vec b)
unfolding sum
products-more [] [] r h = sym (⊕-zero-r r)
products-more [] (y ∷ b) r h = absurd (omega arith)
products-more (x ∷ a) [] r h = absurd (omega arith)
products-more (x ∷ a) (y ∷ b) r h =
    products-more a b (add_product r (x, y)) (omega arith)
    ∙ ap (λ (t : ℕ). t ⊕ dot (length a) (vec a) (vec b)) (xor-is-⊕ r (x ⊗ y))
    ∙ ⊕-assoc r (x ⊗ y) (dot (length a) (vec a) (vec b))
    ∙ ap (r ⊕◌) (sym (sum-first (length a) (λ i. vec (x ∷ a) i ⊗ vec (y ∷ b) i)))

pub products-dot : (a b : List ℕ) → length a ≡ length b → fold add_product 0 (zip a b) ≡ dot (length a) (vec a) (vec b)
products-dot a b h = products-more a b 0 h ∙ ⊕-zero-l (dot (length a) (vec a) (vec b))

pub row_next : (j : ℕ) → row_start (suc j) ≡ row_start j + suc j
unfolding row_start
row_next j = refl

pub row_zero : row_start 0 ≡ 0
unfolding row_start
row_zero = refl

pub row-le : (i j : ℕ) → i ≤ j → row_start i ≤ row_start j
unfolding row_start
row-le zero j h = omega arith
row-le (suc i) zero h = absurd (not-suc-le-zero h)
row-le (suc i) (suc j) h = let ih : row_start i ≤ row_start j = row-le i j (omega arith) in omega arith

-- the next row's start, and that a row lies in its matrix
pub row-turn : (j : ℕ) → row_start (j + 1) ≡ row_start j + (j + 1)
row-turn j = rw (add-one, row_next)

pub row_fits : (j n : ℕ) → j < n → row_start j + (j + 1) ≤ row_start n
row_fits j n h = subst (λ (k : ℕ). k ≤ row_start n) (row-turn j) (row-le (j + 1) n (omega arith))

-- row k of w rows of n elements lies in l
pub grid-fits : (k w n l : ℕ) → k < w → w * n ≤ l → 0 + k * n + n ≤ l
grid-fits k w n l h f = omega (arith, mul-le-mul_right n one_more)
  where
    one_more : k + 1 ≤ w
    one_more = omega arith
