-- BLC.ComputeFolding (document 001, section 2.5.2, algorithm 13) in a buffer, for 256 leaves and tapes of 56 bytes, of which the first 28 are
-- a share of x and the others a share of u. The buffer f has nine rows of 56 bytes: row 0 is acc, and row j + 1 is fd_j. Definitions only.
use Rattle.std.specs.Prelude.{◌≡◌, List, ◌++◌, ℕ, ◌+◌, ◌*◌, ◌^◌, ◌<◌, length}
use Rattle.octets.specs.Lists.{vec, part, zero16}
use Rattle.octets.specs.Xor.{◌⊕◌, xor_b}
use Rattle.field.specs.Gf.{◌⊗◌}
use Rattle.field.specs.Vec.{sum, lifted}
use Rattle.algebra.specs.Folding.{folded}

-- f holds the loop's variables after n tapes
pub record Folds (f : List ℕ) (raw : ℕ → ℕ → ℕ) (n : ℕ) : Type 0 where
  pub acc : (b : ℕ) → b < 56 → vec f b ≡ (folded 8 raw n).acc b
  pub fd : (j b : ℕ) → j < 8 → b < 56 → vec f (56 * (j + 1) + b) ≡ (folded 8 raw n).fd j b

-- lines 4 and 5: g is f with the tape r added to acc, and acc added to fd_p
pub record Added (f r : List ℕ) (p : ℕ) (g : List ℕ) : Type 0 where
  pub long : length g ≡ length f
  pub acc : (b : ℕ) → b < 56 → vec g b ≡ vec f b ⊕ vec r b
  pub fd : (b : ℕ) → b < 56 → vec g (56 * (p + 1) + b) ≡ vec f (56 * (p + 1) + b) ⊕ (vec f b ⊕ vec r b)
  pub kept : (j b : ℕ) → j < 8 → b < 56 → (j ≡ p → ⊥) → vec g (56 * (j + 1) + b) ≡ vec f (56 * (j + 1) + b)

-- lines 7 to 11: element k of x_FOLD, and element i of u_FOLD
unfoldable pub x_fold : List ℕ → ℕ → ℕ
x_fold f k = sum 8 (λ j. (2 ^ j) ⊗ lifted (part (56 * (j + 1)) 28 f) k)

unfoldable pub u_fold : List ℕ → ℕ → ℕ
u_fold f i = sum 8 (λ j. (2 ^ j) ⊗ vec f (56 * (j + 1) + (28 + i)))

-- line 6: u_ACC; x_ACC is row 0's first half
unfoldable pub u_acc : List ℕ → List ℕ
u_acc f = part 28 28 f

-- algorithm 10, lines 14 and 15: NextBits of x - x_ACC
unfoldable pub sent : List ℕ → List ℕ → List ℕ
sent f x = xor_b (part 16 12 x) (part 16 12 f)

-- algorithm 12, lines 13 and 14: Δ_x + x_ACC, where Δ_x is PadLeft of what was sent
unfoldable pub corrected : List ℕ → List ℕ → List ℕ
corrected f d = xor_b (zero16 ++ d) (part 0 28 f)

-- lines 14 and 15, at the point r: (Δ_x + x_ACC) r - x_FOLD, and u_ACC r - u_FOLD
unfoldable pub x_at : List ℕ → List ℕ → ℕ → ℕ → ℕ
x_at f d r k = (lifted (corrected f d) k ⊗ r) ⊕ x_fold f k

unfoldable pub u_at : List ℕ → ℕ → ℕ → ℕ
u_at f r i = (vec f (28 + i) ⊗ r) ⊕ u_fold f i
