-- The evaluation points (document 001, section 3.1): all different, and each differs from the next in one digit. Assumes nothing.
use mathlib.Core.Path.{◌≡◌, refl, sym, ap, ap₂, ◌∙◌}
use mathlib.Core.Bool.{Bool, true, false, cond}
use Prim.Native.Nat.{ℕ, zero, suc, ◌*◌, ◌/◌, ◌%◌, ◌^◌, ◌<◌}
use native.Mathlib.Nat.{pow-suc}
use native.Mathlib.Omega.{arith}
use lib.Dec.{eqb, ltb}
use borrow.Author.Tests.{lt-ltb, le-ltb, ltb-true, ltb-false}
use Rattle.octets.specs.Xor.{◌⊕◌}
use Rattle.octets.proofs.Xor.{⊕-eq, ⊕-self, ⊕-zero-r, ⊕-swap, ⊕-lt, ⊕-shr, ⊕-double, ⊕-split, ⊕·sort}
use Rattle.field.proofs.Linear.{Additive}
use Rattle.algebra.specs.Folding.{point, point_or0, bit_set, position}

-- ---- the points of K are different elements

pub point-⊕ : Additive point
unfolding point
point-⊕ a b = ap (λ (h : ℕ). (a ⊕ b) ⊕ h) (⊕-shr 1 a b) ∙ ⊕-swap a b (a / 2) (b / 2)

pub point-injective : (a b : ℕ) → point a ≡ point b → a ≡ b
point-injective a b e = ⊕-eq a b (none (a ⊕ b) (point-⊕ a b ∙ ap (λ (x : ℕ). x ⊕ point b) e ∙ ⊕-self (point b)))
  where
    none : (c : ℕ) → point c ≡ 0 → c ≡ 0
    none c z = let half : c ≡ c / 2 = unfold point in ⊕-eq c (c / 2) z in omega arith

pub point-lt : (d k : ℕ) → k < 2 ^ d → point k < 2 ^ d
unfolding point
point-lt d k h = ⊕-lt d h (omega arith)

-- ---- the step from a point to the next

-- a point by its lowest digit and the point of the half
pub point-digit : (k : ℕ) → point k ≡ (point (k / 2) * 2) ⊕ ((k % 2) ⊕ (k / 2 % 2))
unfolding point
point-digit k =
    ap₂ ◌⊕◌ (⊕-split 1 k) (⊕-split 1 (k / 2))
    ∙ ⊕-swap (k / 2 * 2) (k % 2) (k / 2 / 2 * 2) (k / 2 % 2)
    ∙ ap (λ (x : ℕ). x ⊕ ((k % 2) ⊕ (k / 2 % 2))) (sym (⊕-double (k / 2) (k / 2 / 2)))

-- the digit in which a and b differ, below d
pub record Step (d a b : ℕ) : Type 0 where
  pub at : ℕ
  pub at_lt : at < d
  pub differ : a ⊕ b ≡ 2 ^ at

bit-flip : (m : ℕ) → suc m % 2 ≡ 1 ⊕ (m % 2)
bit-flip m = go (m % 2) refl
  where
    go : (b : ℕ) → m % 2 ≡ b → suc m % 2 ≡ 1 ⊕ b
    go zero q = let one : suc m % 2 ≡ 1 = omega arith in one ∙ sym (⊕-zero-r 1)
    go (suc zero) q = let none : suc m % 2 ≡ 0 = omega arith in none ∙ sym (⊕-self 1)
    go (suc (suc b)) q = absurd (omega arith)

even_sum : (p c : ℕ) → (p ⊕ (0 ⊕ c)) ⊕ (p ⊕ (1 ⊕ c)) ≡ 1
even_sum p c = simp ⊕·sort

even_step : (k : ℕ) → k % 2 ≡ 0 → point k ⊕ point (suc k) ≡ 1
even_step k e =
    ap₂ ◌⊕◌
    (point-digit k ∙ ap (λ (b : ℕ). (point (k / 2) * 2) ⊕ (b ⊕ (k / 2 % 2))) e)
    (point-digit (suc k) ∙ ap₂ (λ (m b : ℕ). (point m * 2) ⊕ (b ⊕ (m % 2))) half one)
    ∙ even_sum (point (k / 2) * 2) (k / 2 % 2)
  where
    half : suc k / 2 ≡ k / 2
    half = omega arith

    one : suc k % 2 ≡ 1
    one = omega arith

odd-sum : (p q c : ℕ) → (p ⊕ (1 ⊕ c)) ⊕ (q ⊕ (0 ⊕ (1 ⊕ c))) ≡ p ⊕ q
odd-sum p q c = simp ⊕·sort

odd_step : (k : ℕ) → k % 2 ≡ 1 → point k ⊕ point (suc k) ≡ (point (k / 2) ⊕ point (suc (k / 2))) * 2
odd_step k e =
    ap₂ ◌⊕◌
    (point-digit k ∙ ap (λ (b : ℕ). (point (k / 2) * 2) ⊕ (b ⊕ (k / 2 % 2))) e)
    (point-digit (suc k)
    ∙ ap₂ (λ (m b : ℕ). (point m * 2) ⊕ (b ⊕ (m % 2))) half none
    ∙ ap (λ (b : ℕ). (point (suc (k / 2)) * 2) ⊕ (0 ⊕ b)) (bit-flip (k / 2)))
    ∙ odd-sum (point (k / 2) * 2) (point (suc (k / 2)) * 2) (k / 2 % 2)
    ∙ sym (⊕-double (point (k / 2)) (point (suc (k / 2))))
  where
    half : suc k / 2 ≡ suc (k / 2)
    half = omega arith

    none : suc k % 2 ≡ 0
    none = omega arith

-- of two neighbours below 2 ^ d
pub point-step : (d k : ℕ) → suc k < 2 ^ d → Step d (point k) (point (suc k))
point-step zero k h = absurd (omega arith)
point-step (suc d) k h = go (point-step d (k / 2)) (k % 2) refl
  where
    go : (suc (k / 2) < 2 ^ d → Step d (point (k / 2)) (point (suc (k / 2)))) → (b : ℕ) → k % 2 ≡ b → Step (suc d) (point k) (point (suc k))
    go rec zero q = record { at = 0; at_lt = omega arith; differ = even_step k q }
    go rec (suc zero) q =
        let s = rec (omega arith) in
        record { at = suc s.at; at_lt = omega arith; differ = odd_step k q ∙ ap (λ (x : ℕ). x * 2) s.differ ∙ sym (pow-suc 2 s.at) }
    go rec (suc (suc b)) q = absurd (omega arith)

-- the last point is a power of two, so that the step to 0 is one too
pub point-last : (d k : ℕ) → suc k ≡ 2 ^ suc d → point k ≡ 2 ^ d
point-last zero k h = let one : k ≡ 1 = omega arith in ap point one ∙ first
  where
    first : point 1 ≡ 1
    first = unfold point ◌⊕◌ in refl
point-last (suc d) k h =
    point-digit k
    ∙ ap₂ (λ (b c : ℕ). (point (k / 2) * 2) ⊕ (b ⊕ c)) low next
    ∙ ap (λ (x : ℕ). (point (k / 2) * 2) ⊕ x) (⊕-self 1)
    ∙ ⊕-zero-r (point (k / 2) * 2)
    ∙ ap (λ (x : ℕ). x * 2) (point-last d (k / 2) half)
    ∙ sym (pow-suc 2 d)
  where
    low : k % 2 ≡ 1
    low = omega arith

    half : suc (k / 2) ≡ 2 ^ suc d
    half = omega arith

    next : k / 2 % 2 ≡ 1
    next = omega arith

-- ---- as algorithm 13 counts them

pub point_or0-point : (d k : ℕ) → k < 2 ^ d → point_or0 d k ≡ point k
unfolding point_or0
point_or0-point d k h = ap (λ (t : Bool). cond t (point k) 0) (lt-ltb k (2 ^ d) h)

pub point_or0-end : (d : ℕ) → point_or0 d (2 ^ d) ≡ 0
unfolding point_or0
point_or0-end d = ap (λ (t : Bool). cond t (point (2 ^ d)) 0) (le-ltb (2 ^ d) (2 ^ d) (omega arith))

step_of : (d k : ℕ) → k < 2 ^ suc d → Step (suc d) (point_or0 (suc d) k) (point_or0 (suc d) (suc k))
step_of d k h = go (ltb (suc k) (2 ^ suc d)) refl
  where
    go : (t : Bool) → ltb (suc k) (2 ^ suc d) ≡ t → Step (suc d) (point_or0 (suc d) k) (point_or0 (suc d) (suc k))
    go true q =
        let l : suc k < 2 ^ suc d = ltb-true (suc k) (2 ^ suc d) q in
        let s = point-step (suc d) k l in
        record { at = s.at; at_lt = s.at_lt; differ = ap₂ ◌⊕◌ (point_or0-point (suc d) k h) (point_or0-point (suc d) (suc k) l) ∙ s.differ }
    go false q =
        let e : suc k ≡ 2 ^ suc d = omega (arith, ltb-false (suc k) (2 ^ suc d) q) in
        record {
          at = d;
          at_lt = omega arith;
          differ =
              ap₂ ◌⊕◌ (point_or0-point (suc d) k h ∙ point-last d k e) (ap (point_or0 (suc d)) e ∙ point_or0-end (suc d))
              ∙ ⊕-zero-r (2 ^ d);
        }

pub bit_set-pow : (d t : ℕ) → t < d → bit_set d (2 ^ t) ≡ t
unfolding bit_set
bit_set-pow zero t h = absurd (omega arith)
bit_set-pow (suc d) zero h = refl
bit_set-pow (suc d) (suc t) h =
    ap₂ (λ (b : ℕ) (a : ℕ). cond (eqb b 1) 0 (suc (bit_set d a))) none half ∙ ap suc (bit_set-pow d t (omega arith))
  where
    none : 2 ^ suc t % 2 ≡ 0
    none = omega arith

    half : 2 ^ suc t / 2 ≡ 2 ^ t
    half = omega arith

position_at : (d k : ℕ) (s : Step d (point_or0 d k) (point_or0 d (suc k))) → position d k ≡ s.at
unfolding position
position_at d k s = ap (bit_set d) s.differ ∙ bit_set-pow d s.at s.at_lt

pub position-lt : (d k : ℕ) → k < 2 ^ suc d → position (suc d) k < suc d
position-lt d k h = let s = step_of d k h in omega (arith, position_at (suc d) k s, s.at_lt)

pub position-step : (d k : ℕ) → k < 2 ^ suc d → point_or0 (suc d) k ⊕ point_or0 (suc d) (suc k) ≡ 2 ^ position (suc d) k
position-step d k h = let s = step_of d k h in s.differ ∙ ap (2 ^◌) (sym (position_at (suc d) k s))
