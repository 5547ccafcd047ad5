-- Lists of bytes as document 001 has them (2.3): made of a function, laid end to end, taken apart at fixed places. A list is read
-- by `vec`, which gives 0 past its end, so that no definition asks for a length. Definitions only.
use Rattle.std.specs.Prelude.{List, [], ◌∷◌, ◌++◌, Bool, true, false, ◌&&◌, ℕ, zero, suc, ◌+◌, ◌/◌, ◌%◌, ◌<◌, eqb, get_or, take, drop, replicate}

-- ---- a list and a function

-- what a list holds at place i
abbrev pub vec : List ℕ → ℕ → ℕ
vec l i = get_or l i 0

-- what it holds from place o on
abbrev pub view : List ℕ → ℕ → ℕ → ℕ
view l o i = get_or l (o + i) 0

-- f 0, f 1, .. f (n - 1)
unfoldable pub tab : ℕ → (ℕ → ℕ) → List ℕ
tab zero f = []
tab (suc n) f = f 0 ∷ tab n (λ i. f (suc i))

-- ---- Serialize and Parse

-- n bytes of l, from place o on
unfoldable pub part : ℕ → ℕ → List ℕ → List ℕ
part o n l = take n (drop o l)

-- lists laid end to end
unfoldable pub flat : List (List ℕ) → List ℕ
flat [] = []
flat (s ∷ ss) = s ++ flat ss

-- f 0, f 1, .. f (n - 1), laid end to end
unfoldable pub joined : ℕ → (ℕ → List ℕ) → List ℕ
joined zero f = []
joined (suc n) f = f 0 ++ joined n (λ i. f (suc i))

-- ---- bytes

-- every element is a byte
unfoldable pub Bytes : List ℕ → Type 0
Bytes [] = Unit {0}
Bytes (x ∷ l) = (x < 256) × Bytes l

abbrev pub zero16 : List ℕ
zero16 = replicate 16 0

-- the n bytes of the number t, the low byte first
unfoldable pub bytes_of : ℕ → ℕ → List ℕ
bytes_of zero t = []
bytes_of (suc n) t = t % 256 ∷ bytes_of n (t / 256)

-- whether two lists are equal, element by element
unfoldable pub alike : List ℕ → List ℕ → Bool
alike [] [] = true
alike [] (y ∷ b) = false
alike (x ∷ a) [] = false
alike (x ∷ a) (y ∷ b) = eqb x y && alike a b
