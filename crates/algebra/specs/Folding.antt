-- The evaluation points (document 001, section 3.1) and BLC.ComputeFolding (section 2.5.2, algorithm 13), over N = 2 ^ d leaves.
-- A tape, raw_i, is a function from places to bytes; Parse at one coordinate is a function `read` of a tape. Definitions only.
use Rattle.std.specs.Prelude.{cond, ℕ, zero, suc, ◌/◌, ◌%◌, ◌^◌, eqb, ltb}
use Rattle.octets.specs.Xor.{◌⊕◌}
use Rattle.field.specs.Gf.{◌⊗◌}
use Rattle.field.specs.Vec.{sum, skip}

-- ω_k: the Gray code of k. Digit j of it is the coefficient of ξ^j
unfoldable pub point : ℕ → ℕ
point k = k ⊕ (k / 2)

-- ω_k, with the convention that ω_N is 0
unfoldable pub point_or0 : ℕ → ℕ → ℕ
point_or0 d k = cond (ltb k (2 ^ d)) (point k) 0

-- the position of the lowest bit set among the first d of a
unfoldable pub bit_set : ℕ → ℕ → ℕ
bit_set zero a = 0
bit_set (suc d) a = cond (eqb (a % 2) 1) 0 (suc (bit_set d (a / 2)))

-- p_i: the position of the only bit set in ω_i ⊕ ω_{i+1}
unfoldable pub position : ℕ → ℕ → ℕ
position d i = bit_set d (point_or0 d i ⊕ point_or0 d (suc i))

-- the variables of the loop: acc, and fd_j for each j
pub record Folded : Type 0 where
  pub acc : ℕ → ℕ
  pub fd : ℕ → ℕ → ℕ

-- lines 4 and 5
unfoldable pub turn : ℕ → (ℕ → ℕ) → Folded → Folded
turn p raw v =
    record {
      acc = λ b. v.acc b ⊕ raw b;
      fd = λ j b. cond (eqb j p) (v.fd j b ⊕ (v.acc b ⊕ raw b)) (v.fd j b);
    }

-- lines 1 to 5, for the first n tapes
unfoldable pub folded : ℕ → (ℕ → ℕ → ℕ) → ℕ → Folded
folded d raw zero = record { acc = λ b. 0; fd = λ j b. 0 }
folded d raw (suc n) = turn (position d n) (raw n) (folded d raw n)

-- line 6: x_ACC and u_ACC, at the coordinate that `read` gives
unfoldable pub acc_of : ℕ → (ℕ → ℕ → ℕ) → ((ℕ → ℕ) → ℕ) → ℕ
acc_of d raw read = read (folded d raw (2 ^ d)).acc

-- lines 7 to 11: x_FOLD and u_FOLD; e_j, the element ξ^j of the canonical basis, is 2 ^ j
unfoldable pub fold_of : ℕ → (ℕ → ℕ → ℕ) → ((ℕ → ℕ) → ℕ) → ℕ
fold_of d raw read = sum d (λ j. (2 ^ j) ⊗ read ((folded d raw (2 ^ d)).fd j))

-- the tapes with that of leaf i unknown, and 0 in its place
unfoldable pub hide : ℕ → (ℕ → ℕ → ℕ) → ℕ → ℕ → ℕ
hide i raw k b = skip i (λ k. raw k b) k
