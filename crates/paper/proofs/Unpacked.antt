-- Equations: a secret key's solution satisfies the packed equations exactly when it satisfies the 56 equations over F that they stand for,
-- whatever the basis. Assumes nothing.
use mathlib.Core.Path.{◌≡◌}
use mathlib.Core.List.{List}
use mathlib.Core.Logic.{◌↔◌}
use mathlib.Core.Bool.{true}
use Prim.Native.Nat.{ℕ, ◌<◌}
use lib.ListN.{length}
use Rattle.octets.specs.Lists.{zero16, Bytes}
use Rattle.octets.proofs.Bounds.{bytes-at, bytes-part, bytes-zero16}
use Rattle.field.specs.Vec.{half, lifted}
use Rattle.algebra.specs.Line.{Equation, Solves}
use Rattle.algebra.specs.Pack.{SolvesF, Basis, OverK, part_of}
use Rattle.algebra.proofs.Pack.{parts-solve}
use Rattle.paper.specs.Symmetric.{for_equations}
use Rattle.paper.specs.Keys.{seed_eq, rows, equation, public_of, solution_of, mseed_eq_of, y_of, satisfied}
use Rattle.paper.proofs.Symmetric.{bytes-xof, bytes-prg}
use Rattle.paper.proofs.Keys.{satisfied-solves, solves-satisfied}

bytes-rows : (m : List ℕ) (q : ℕ) → Bytes (rows m q)
unfolding rows seed_eq
bytes-rows m q = bytes-prg zero16 0 _ 1652 bytes-zero16 (bytes-xof for_equations _ 16)

pub bytes-equation : (m y : List ℕ) (q : ℕ) → Bytes y → OverK (equation m y q)
unfolding equation
bytes-equation m y q p = record {
  A-lt = λ j k. bytes-at (rows m q) (bytes-rows m q) _;
  b_lt = λ k. bytes-at (rows m q) (bytes-rows m q) _;
  y-lt = bytes-at y p q;
}

-- packed equation q of a public key
abbrev pub equation_of : List ℕ → ℕ → Equation
equation_of pk q = equation (mseed_eq_of pk) (y_of pk) q

module _ (β γ : ℕ) (B : Basis β γ) (sk : List ℕ) (hk : length sk ≡ 88) (p : Bytes sk) where
  bytes-y : Bytes (y_of (public_of sk))
  unfolding y_of public_of
  bytes-y = bytes-part 32 28 _ (bytes-part 0 60 sk p)

  -- the two equations over F that packed equation q stands for
  abbrev pub Both : ℕ → Type 0
  Both q =
      SolvesF 56 (part_of B.first (equation_of (public_of sk) q)) (half (solution_of sk))
      × SolvesF 56 (part_of B.second (equation_of (public_of sk) q)) (half (solution_of sk))

  one : (q : ℕ) → Solves 56 (equation_of (public_of sk) q) (lifted (solution_of sk)) ↔ Both q
  unfolding lifted
  one q = parts-solve β γ B 56 (equation_of (public_of sk) q) (half (solution_of sk)) (bytes-equation _ _ q bytes-y)

  pub satisfied-unpacked : (satisfied sk ≡ true) ↔ ((q : ℕ) → q < 28 → Both q)
  satisfied-unpacked = (λ h q hq. (one q).0 (satisfied-solves sk h q hq), λ h. solves-satisfied sk hk (λ q hq. (one q).1 (h q hq)))
