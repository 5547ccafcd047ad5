-- Document 001, section 2.4.1 (algorithms 1 and 2): keys and their equations; and what document 01 adds: whether a secret key's solution
-- satisfies its equations, and the public key that belongs to it. Definitions only.
use Rattle.std.specs.Prelude.{List, [], ◌++◌, Bool, ℕ}
use Rattle.octets.specs.Lists.{vec, tab, part, bytes_of, zero16, alike}
use Rattle.field.specs.Vec.{lifted}
use Rattle.algebra.specs.Line.{Equation, equation_in, form}
use Rattle.paper.specs.Symmetric.{xof, prg, for_key, for_equations}

-- ---- algorithm 2, ExpandEquations: packed equation i + 1

-- line 4
unfoldable pub seed_eq : List ℕ → ℕ → List ℕ
seed_eq mseed_eq i = xof for_equations (mseed_eq ++ bytes_of 2 i) 16

-- line 5: rows of 1, 2, .. 56 elements, and then b, an element to a byte
unfoldable pub rows : List ℕ → ℕ → List ℕ
rows mseed_eq i = prg zero16 0 (seed_eq mseed_eq i) 1652

-- lines 6 to 8, with the value y_i beside A_i and b_i
unfoldable pub equation : List ℕ → List ℕ → ℕ → Equation
equation mseed_eq y i = equation_in 56 (rows mseed_eq i) 0 (vec y i)

-- ---- algorithm 1, KeyGen

-- line 5, for each packed equation: x' A x + b' x
unfoldable pub values_at : List ℕ → List ℕ → List ℕ
values_at mseed_eq x = tab 28 (λ i. form 56 (equation mseed_eq [] i) (lifted x))

pub record KeyPair : Type 0 where
  pub pk : List ℕ
  pub sk : List ℕ

-- line 2: x and mseed_eq, laid end to end
unfoldable pub drawn : List ℕ → List ℕ
drawn seed_key = xof for_key seed_key 60

unfoldable pub key_gen : List ℕ → KeyPair
key_gen seed_key =
    let x = part 0 28 (drawn seed_key) in
    let mseed_eq = part 28 32 (drawn seed_key) in
    let pk = mseed_eq ++ values_at mseed_eq x in
    record { pk = pk; sk = pk ++ x }

-- ---- the parts of keys

-- the public key that belongs to a secret key
unfoldable pub public_of : List ℕ → List ℕ
public_of sk = part 0 60 sk

unfoldable pub solution_of : List ℕ → List ℕ
solution_of sk = part 60 28 sk

unfoldable pub mseed_eq_of : List ℕ → List ℕ
mseed_eq_of pk = part 0 32 pk

unfoldable pub y_of : List ℕ → List ℕ
y_of pk = part 32 28 pk

-- whether the secret solution satisfies the equations that the secret key carries
unfoldable pub satisfied : List ℕ → Bool
satisfied sk = alike (values_at (mseed_eq_of (public_of sk)) (solution_of sk)) (y_of (public_of sk))
