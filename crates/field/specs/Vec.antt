-- Sums, products of vectors and of a matrix with a vector, over the field K of 256 elements.
-- A vector is a function from places to elements, and a length is said only where a sum ends or a list is made; a list is a vector by
-- `vec` and `view`. Definitions only.
use Rattle.std.specs.Prelude.{List, cond, ℕ, zero, suc, ◌+◌, ◌*◌, ◌/◌, ◌%◌, ◌^◌, eqb, get_or}
use Rattle.octets.specs.Lists.{view}
use Rattle.octets.specs.Xor.{◌⊕◌}
use Rattle.field.specs.Gf.{◌⊗◌, lift}

-- ---- matrices in lists

-- 1 + .. + j: where row j starts in a triangular matrix whose rows, of 1, 2, .. elements, lie one after the other
unfoldable pub row_start : ℕ → ℕ
row_start zero = 0
row_start (suc j) = row_start j + suc j

-- the triangular matrix that lies in l from place o on
abbrev pub triangle : List ℕ → ℕ → ℕ → ℕ → ℕ
triangle l o j = view l (o + row_start j)

-- the matrix with rows of w elements that lies in l from place o on
abbrev pub grid : ℕ → List ℕ → ℕ → ℕ → ℕ → ℕ
grid w l o j = view l (o + j * w)

-- ---- sums

-- f 0 + .. + f (n - 1)
unfoldable pub sum : ℕ → (ℕ → ℕ) → ℕ
sum zero f = 0
sum (suc n) f = sum n f ⊕ f n

-- f with 0 at place s
unfoldable pub skip : ℕ → (ℕ → ℕ) → ℕ → ℕ
skip s f k = cond (eqb k s) 0 (f k)

abbrev pub dot : ℕ → (ℕ → ℕ) → (ℕ → ℕ) → ℕ
dot n f g = sum n (λ i. f i ⊗ g i)

-- a matrix times a vector: row j counts w j elements, so `suc` stands for a triangular matrix, and a constant for a rectangular one
abbrev pub mat : (ℕ → ℕ) → (ℕ → ℕ → ℕ) → (ℕ → ℕ) → ℕ → ℕ
mat w A v j = dot (w j) (A j) v

-- ---- vectors over F in lists of bytes

-- element i of a list of bytes that hold two elements of F each, the lower half first
unfoldable pub half : List ℕ → ℕ → ℕ
half l i = get_or l (i / 2) 0 / 2 ^ (4 * (i % 2)) % 2 ^ 4

-- element i of it, as an element of K
unfoldable pub lifted : List ℕ → ℕ → ℕ
lifted l i = lift (half l i)
