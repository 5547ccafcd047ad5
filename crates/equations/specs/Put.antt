-- What the writes leave in a buffer. Definitions only.
use Rattle.std.specs.Prelude.{◌≡◌, List, ℕ, suc, ◌+◌, ◌*◌, ◌<◌, ◌≤◌}
use Rattle.octets.specs.Lists.{vec}
use Rattle.field.specs.Gf.{◌⊗◌}
use Rattle.field.specs.Vec.{row_start, lifted}
use Rattle.equations.specs.Lanes.{lane}

-- d' is d with f k at place p k, for each k < n
pub record Put (d : List ℕ) (n : ℕ) (p f : ℕ → ℕ) (d' : List ℕ) : Type 0 where
  pub here : (k : ℕ) → k < n → vec d' (p k) ≡ f k
  pub others : (i : ℕ) → ((k : ℕ) → k < n → i ≡ p k → ⊥) → vec d' i ≡ vec d i

-- d' is d with the solution x, and the point 1, in lane 17, and the point 0 in the other lanes
pub record Own (x d d' : List ℕ) : Type 0 where
  pub solution : (k : ℕ) → k < 56 → lane d' k 17 ≡ lifted x k
  pub point : lane d' 56 17 ≡ 1
  pub points : (l : ℕ) → l < 24 → (l ≡ 17 → ⊥) → lane d' 56 l ≡ 0
  pub others : (i : ℕ) → i < 10752 → ((k : ℕ) → k < 56 → i ≡ 192 * k + 17 → ⊥) → vec d' i ≡ vec d i
  pub behind : (i : ℕ) → 10776 ≤ i → vec d' i ≡ vec d i

-- w holds x_k x_j for k ≤ j, row by row, and then x_j
pub record Monomials (x : ℕ → ℕ) (w : List ℕ) : Type 0 where
  pub pairs : (j k : ℕ) → j < 56 → k < suc j → vec w (row_start j + k) ≡ x k ⊗ x j
  pub ones : (j : ℕ) → j < 56 → vec w (row_start 56 + j) ≡ x j
