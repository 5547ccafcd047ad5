-- A list written over a buffer at an offset. What would lie past the buffer's end is dropped. Definitions only.
use Rattle.std.specs.Prelude.{List, [], ◌∷◌, ℕ, zero, suc}

-- x over the front of s
unfoldable pub over : List ℕ → List ℕ → List ℕ
over [] s = s
over (x ∷ xs) [] = []
over (x ∷ xs) (c ∷ s) = x ∷ over xs s

-- x over s from place a on
unfoldable pub place : ℕ → List ℕ → List ℕ → List ℕ
place zero x s = over x s
place (suc a) x [] = []
place (suc a) x (c ∷ s) = c ∷ place a x s
