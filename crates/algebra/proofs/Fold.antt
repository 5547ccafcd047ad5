-- BLC.ComputeFolding (document 001, section 2.5.2, algorithm 13) gives the two sums of the shares, for every N = 2 ^ d, with a leaf hidden or
-- not; and what a share that is an element of F does to them. Assumes nothing.
use mathlib.Core.Path.{◌≡◌, refl, sym, ap, ap₂, ◌∙◌, fun_ext}
use mathlib.Core.List.{List}
use mathlib.Core.Bool.{Bool, true, false, cond}
use Prim.Native.Nat.{ℕ, zero, suc, ◌*◌, ◌/◌, ◌%◌, ◌^◌, ◌<◌}
use lib.Dec.{eqb}
use Rattle.octets.specs.Xor.{◌⊕◌}
use Rattle.octets.proofs.Xor.{⊕-zero-r, ⊕-self, ⊕-cancel-self, ⊕-shr, ⊕-mod}
use Rattle.octets.specs.Lists.{vec}
use Rattle.field.specs.Gf.{◌⊗◌, lift}
use Rattle.field.specs.Vec.{sum, skip, half, lifted}
use Rattle.field.proofs.Linear.{Additive}
use Rattle.field.proofs.Field.{K·ring, ⊗-zero-l, ⊗-zero-r, lift-⊕}
use Rattle.field.proofs.Sum.{sum-ext, sum-map, sum-⊗-l, sum-swap, skip-cases, skip-same, skip-other}
use Rattle.algebra.specs.Line.{line, constant_of, correction_of, value_of}
use Rattle.algebra.specs.Folding.{point, point_or0, position, turn, folded, acc_of, fold_of, hide}
use Rattle.algebra.proofs.Only.{only, sum-only}
use Rattle.algebra.proofs.Points.{point_or0-point, point_or0-end, position-lt, position-step}

-- ---- a weighted sum, by the steps from each weight to the next

-- what is added at each turn is the sum so far times the step; where w n is 0, the second part vanishes
by-steps-turn : (a w w' s t : ℕ) → a ⊕ (w ⊗ s) ⊕ (w ⊗ t) ≡ a ⊕ ((w ⊕ w') ⊗ (s ⊕ t)) ⊕ (w' ⊗ (s ⊕ t))
by-steps-turn a w w' s t = simp K·ring

pub by-steps : (n : ℕ) (w s : ℕ → ℕ) → sum n (λ k. w k ⊗ s k) ≡ sum n (λ k. (w k ⊕ w (suc k)) ⊗ sum (suc k) s) ⊕ (w n ⊗ sum n s)
unfolding sum
by-steps zero w s = simp K·ring
by-steps (suc n) w s =
    ap (λ (z : ℕ). z ⊕ (w n ⊗ s n)) (by-steps n w s)
    ∙ by-steps-turn (sum n (λ k. (w k ⊕ w (suc k)) ⊗ sum (suc k) s)) (w n) (w (suc n)) (sum n s) (s n)

-- summands with the factor e (p k), gathered by p k
pub gathered : (N L : ℕ) (p : ℕ → ℕ) (e a : ℕ → ℕ) → ((k : ℕ) → k < N → p k < L)
    → sum N (λ k. e (p k) ⊗ a k) ≡ sum L (λ j. e j ⊗ sum N (λ k. cond (eqb j (p k)) (a k) 0))
unfolding only
gathered N L p e a h =
    sum-ext N _ _ (λ k hk. sym (sum-only L (p k) (λ j. e j ⊗ a k) (h k hk)))
    ∙ sum-swap N L (λ k. only (p k) (λ j. e j ⊗ a k))
    ∙ ap (sum L) (fun_ext (λ j. ap (sum N) (fun_ext (inside j)) ∙ sum-⊗-l N (e j) (λ k. cond (eqb j (p k)) (a k) 0)))
  where
    inside : (j k : ℕ) → only (p k) (λ j. e j ⊗ a k) j ≡ e j ⊗ cond (eqb j (p k)) (a k) 0
    inside j k = go (eqb j (p k))
      where
        go : (t : Bool) → cond t (e j ⊗ a k) 0 ≡ e j ⊗ cond t (a k) 0
        go true = refl
        go false = sym (⊗-zero-r (e j))

-- weights w, the last followed by 0, whose steps are the elements e (p k)
pub fold-steps : (N L : ℕ) (w p e s : ℕ → ℕ) → w N ≡ 0 → ((k : ℕ) → k < N → w k ⊕ w (suc k) ≡ e (p k)) → ((k : ℕ) → k < N → p k < L)
    → constant_of N w s ≡ sum L (λ j. e j ⊗ sum N (λ k. cond (eqb j (p k)) (sum (suc k) s) 0))
fold-steps N L w p e s last steps small =
    by-steps N w s
    ∙ ap₂ ◌⊕◌
    (sum-ext N _ _ (λ k hk. ap (◌⊗ sum (suc k) s) (steps k hk)) ∙ gathered N L p e (λ k. sum (suc k) s) small)
    (ap (◌⊗ sum N s) last ∙ ⊗-zero-l (sum N s))
    ∙ ⊕-zero-r _

-- the points: what algorithm 13 adds up in fd_j
pub fold-points : (d : ℕ) (s : ℕ → ℕ)
    → constant_of (2 ^ d) point s ≡ sum d (λ j. (2 ^ j) ⊗ sum (2 ^ d) (λ k. cond (eqb j (position d k)) (sum (suc k) s) 0))
unfolding sum point ◌⊕◌
fold-points zero s = ⊗-zero-l (s 0)
fold-points (suc d) s =
    sum-ext (2 ^ suc d) _ _ (λ k hk. ap (◌⊗ s k) (sym (point_or0-point (suc d) k hk)))
    ∙ fold-steps (2 ^ suc d) (suc d) (point_or0 (suc d)) (position (suc d)) (2 ^◌) s (point_or0-end (suc d)) (position-step d) (position-lt d)

-- ---- the loop

-- a coordinate of a tape, where the tapes' sum is read as the sum
abbrev pub Reads : ((ℕ → ℕ) → ℕ) → Type 0
Reads read = (s t : ℕ → ℕ) → read (λ b. s b ⊕ t b) ≡ read s ⊕ read t

module _ (d : ℕ) (raw : ℕ → ℕ → ℕ) where
  pub folded-acc : (n b : ℕ) → (folded d raw n).acc b ≡ sum n (λ k. raw k b)
  unfolding folded turn sum
  folded-acc zero b = refl
  folded-acc (suc n) b = ap (λ (x : ℕ). x ⊕ raw n b) (folded-acc n b)

  pub folded-fd : (n j b : ℕ) → (folded d raw n).fd j b ≡ sum n (λ k. cond (eqb j (position d k)) (sum (suc k) (λ k. raw k b)) 0)
  unfolding folded turn sum
  folded-fd zero j b = refl
  folded-fd (suc n) j b =
      ap₂ (λ (x y : ℕ). cond (eqb j (position d n)) (x ⊕ (y ⊕ raw n b)) x) (folded-fd n j b) (folded-acc n b)
      ∙ go (eqb j (position d n)) (sum n (λ k. cond (eqb j (position d k)) (sum k (λ k. raw k b) ⊕ raw k b) 0)) (sum n (λ k. raw k b) ⊕ raw n b)
    where
      go : (t : Bool) (x y : ℕ) → cond t (x ⊕ y) x ≡ x ⊕ cond t y 0
      go true x y = refl
      go false x y = sym (⊕-zero-r x)

module _ (read : (ℕ → ℕ) → ℕ) (reads : Reads read) where
  read-zero : read (λ b. 0) ≡ 0
  read-zero =
      sym (⊕-cancel-self (read (λ b. 0)) (read (λ b. 0)))
      ∙ ap (λ (x : ℕ). read (λ b. 0) ⊕ x) (sym (reads (λ b. 0) (λ b. 0)) ∙ ap read (fun_ext (λ b. ⊕-self 0)))
      ∙ ⊕-self (read (λ b. 0))

  read-sum : (n : ℕ) (f : ℕ → ℕ → ℕ) → read (λ b. sum n (λ k. f k b)) ≡ sum n (λ k. read (f k))
  unfolding sum
  read-sum zero f = read-zero
  read-sum (suc n) f = reads (λ b. sum n (λ k. f k b)) (f n) ∙ ap (λ (x : ℕ). x ⊕ read (f n)) (read-sum n f)

  read-cond : (t : Bool) (f : ℕ → ℕ) → read (λ b. cond t (f b) 0) ≡ cond t (read f) 0
  read-cond true f = refl
  read-cond false f = read-zero

  -- x_ACC and u_ACC
  pub folding-acc : (d : ℕ) (raw : ℕ → ℕ → ℕ) → acc_of d raw read ≡ sum (2 ^ d) (λ k. read (raw k))
  unfolding acc_of
  folding-acc d raw = ap read (fun_ext (folded-acc d raw (2 ^ d))) ∙ read-sum (2 ^ d) raw

  -- x_FOLD and u_FOLD
  pub folding-fold : (d : ℕ) (raw : ℕ → ℕ → ℕ) → fold_of d raw read ≡ constant_of (2 ^ d) point (λ k. read (raw k))
  unfolding fold_of
  folding-fold d raw = ap (sum d) (fun_ext (λ j. ap ((2 ^ j) ⊗◌) (at j))) ∙ sym (fold-points d (λ k. read (raw k)))
    where
      at : (j : ℕ) → read ((folded d raw (2 ^ d)).fd j) ≡ sum (2 ^ d) (λ k. cond (eqb j (position d k)) (sum (suc k) (λ k. read (raw k))) 0)
      at j =
          ap read (fun_ext (folded-fd d raw (2 ^ d) j))
          ∙ read-sum (2 ^ d) (λ k b. cond (eqb j (position d k)) (sum (suc k) (λ k. raw k b)) 0)
          ∙ ap (sum (2 ^ d))
          (fun_ext
          (λ k. read-cond (eqb j (position d k)) (λ b. sum (suc k) (λ k. raw k b)) ∙ ap (λ (x : ℕ). cond (eqb j (position d k)) x 0) (read-sum (suc k) raw)))

  -- ---- with leaf i hidden

  read-hide : (i : ℕ) (raw : ℕ → ℕ → ℕ) (k : ℕ) → read (hide i raw k) ≡ skip i (λ k. read (raw k)) k
  unfolding hide
  read-hide i raw k =
      skip-cases (λ k. read (λ b. skip i (λ k. raw k b) k) ≡ skip i (λ k. read (raw k)) k) i k
      (ap read (fun_ext (λ b. skip-same i (λ k. raw k b))) ∙ read-zero ∙ sym (skip-same i (λ k. read (raw k))))
      (λ ne. ap read (fun_ext (λ b. skip-other i (λ k. raw k b) k ne)) ∙ sym (skip-other i (λ k. read (raw k)) k ne))

  pub folding-acc-hidden : (d i : ℕ) (raw : ℕ → ℕ → ℕ) → acc_of d (hide i raw) read ≡ sum (2 ^ d) (skip i (λ k. read (raw k)))
  folding-acc-hidden d i raw = folding-acc d (hide i raw) ∙ ap (sum (2 ^ d)) (fun_ext (read-hide i raw))

  pub folding-fold-hidden : (d i : ℕ) (raw : ℕ → ℕ → ℕ) → fold_of d (hide i raw) read ≡ constant_of (2 ^ d) point (skip i (λ k. read (raw k)))
  folding-fold-hidden d i raw =
      folding-fold d (hide i raw) ∙ ap (sum (2 ^ d)) (fun_ext (λ k. ap (point k ⊗◌) (read-hide i raw k)))

  -- v_x and v_u as BLC.Eval makes them of these values: (Δ_x + x_ACC) r - x_FOLD
  pub folding-value : (d i : ℕ) (raw : ℕ → ℕ → ℕ) (Δ r : ℕ)
      → line (Δ ⊕ acc_of d (hide i raw) read) (fold_of d (hide i raw) read) r ≡ value_of (2 ^ d) point (skip i (λ k. read (raw k))) Δ r
  folding-value d i raw Δ r =
      ap₂ (λ (a c : ℕ). line (Δ ⊕ a) c r) (folding-acc-hidden d i raw) (folding-fold-hidden d i raw)

-- ---- the coordinates of a tape: a byte, an element of K, and half a byte, an element of F

pub reads_byte : (b : ℕ) → Reads (λ t. t b)
reads_byte b s t = refl

half-⊕ : (o : ℕ) → Additive (λ a. a / 2 ^ o % 2 ^ 4)
half-⊕ o a b = ap (λ (x : ℕ). x % 2 ^ 4) (⊕-shr o a b) ∙ ⊕-mod 4 (a / 2 ^ o) (b / 2 ^ o)

pub reads-half : (o b : ℕ) → Reads (λ t. lift (t b / 2 ^ o % 2 ^ 4))
reads-half o b s t = ap lift (half-⊕ o (s b) (t b)) ∙ lift-⊕ (s b / 2 ^ o % 2 ^ 4) (t b / 2 ^ o % 2 ^ 4)

pub folding-byte : (d : ℕ) (tape : ℕ → List ℕ) (b : ℕ) → fold_of d (λ k. vec (tape k)) (λ t. t b) ≡ constant_of (2 ^ d) point (λ k. vec (tape k) b)
folding-byte d tape b = folding-fold (λ t. t b) (reads_byte b) d (λ k. vec (tape k))

pub folding-lifted : (d : ℕ) (tape : ℕ → List ℕ) (i : ℕ)
    → fold_of d (λ k. vec (tape k)) (λ t. lift (t (i / 2) / 2 ^ (4 * (i % 2)) % 2 ^ 4)) ≡ constant_of (2 ^ d) point (λ k. lifted (tape k) i)
unfolding lifted half
folding-lifted d tape i = folding-fold _ (reads-half (4 * (i % 2)) (i / 2)) d (λ k. vec (tape k))

-- ---- the correction is worked out in F and lifted, or on bytes that hold two elements each

pub lift-sum : (n : ℕ) (f : ℕ → ℕ) → lift (sum n f) ≡ sum n (λ i. lift (f i))
lift-sum n f = sum-map lift lift-⊕ n f

pub lift-correction : (N : ℕ) (s : ℕ → ℕ) (x : ℕ) → lift (correction_of N s x) ≡ correction_of N (λ k. lift (s k)) (lift x)
lift-correction N s x = lift-⊕ x (sum N s) ∙ ap (lift x ⊕◌) (lift-sum N s)

-- a half of a sum is the sum of the halves
pub half-sum : (o n : ℕ) (f : ℕ → ℕ) → sum n f / 2 ^ o % 2 ^ 4 ≡ sum n (λ k. f k / 2 ^ o % 2 ^ 4)
half-sum o n f = sum-map (λ a. a / 2 ^ o % 2 ^ 4) (half-⊕ o) n f
