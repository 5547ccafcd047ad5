-- What algorithms 10 and 12 make of a buffer that holds the loop's variables after all 256 tapes: x_FOLD and u_FOLD are the constant terms of the
-- lines, acc the sums of the shares. Leaf i is hidden; none is where i is 256. Assumes nothing.
use mathlib.Core.Path.{◌≡◌, sym, ap, ap₂, ◌∙◌, fun_ext}
use mathlib.Core.List.{List, ◌++◌, append-nil}
use Prim.Native.Nat.{ℕ, ◌+◌, ◌*◌, ◌/◌, ◌%◌, ◌^◌, ◌<◌, ◌≤◌}
use native.Mathlib.Nat.{zero-add}
use native.Mathlib.Omega.{arith}
use lib.ListN.{length, take, drop, length-append, length-drop, take-append-drop, drop_of_length-le}
use lib.Seq.{take_all, length-take-le}
use Rattle.octets.specs.Lists.{vec, tab, part, zero16}
use Rattle.octets.specs.Xor.{◌⊕◌, xor_b}
use Rattle.octets.proofs.Xor.{⊕-shr, ⊕-mod, ⊕-zero-l, xor_b-comm, xor_b-zeros-l, length-xor_b, vec-xor_b}
use Rattle.octets.proofs.Part.{length_part, vec-part}
use Rattle.octets.proofs.Tab.{length-tab, vec-tab, is-tab, tab-ext}
use Rattle.field.specs.Gf.{◌⊗◌, lift}
use Rattle.field.specs.Vec.{sum, skip, half, lifted}
use Rattle.field.proofs.Field.{lift-⊕}
use Rattle.field.proofs.Sum.{sum-ext, skip-other, sum-skip-past}
use Rattle.algebra.specs.Line.{line, constant_of, correction_of, value_of}
use Rattle.algebra.specs.Folding.{point, acc_of, fold_of, hide}
use Rattle.algebra.proofs.Fold.{reads_byte, reads-half, folding-acc-hidden, folding-fold-hidden}
use Rattle.folding.specs.Rows.{Folds, x_fold, u_fold, u_acc, sent, corrected, x_at, u_at}
use Rattle.octets.proofs.Xor.{xor_b-append}

-- ---- an element of F in a list of bytes

abbrev element : ℕ → (ℕ → ℕ) → ℕ
element q t = lift (t (q / 2) / 2 ^ (4 * (q % 2)) % 2 ^ 4)

lifted-part : (o : ℕ) (l : List ℕ) (q : ℕ) → q < 56 → lifted (part o 28 l) q ≡ element q (λ b. vec l (o + b))
unfolding lifted half
lifted-part o l q h = ap (λ (x : ℕ). lift (x / 2 ^ (4 * (q % 2)) % 2 ^ 4)) (vec-part o 28 l (q / 2) (omega arith))

lifted-front : (l : List ℕ) (q : ℕ) → q < 56 → lifted (part 0 28 l) q ≡ element q (vec l)
lifted-front l q h = lifted-part 0 l q h ∙ ap (λ (b : ℕ). lift (vec l b / 2 ^ (4 * (q % 2)) % 2 ^ 4)) (zero-add (q / 2))

lifted-xor_b : (a b : List ℕ) (q : ℕ) → q / 2 < length a → q / 2 < length b → lifted (xor_b a b) q ≡ lifted a q ⊕ lifted b q
unfolding lifted half
lifted-xor_b a b q ha hb =
    ap (λ (x : ℕ). lift (x / 2 ^ (4 * (q % 2)) % 2 ^ 4)) (vec-xor_b a b (q / 2) ha hb)
    ∙ ap lift (ap (λ (x : ℕ). x % 2 ^ 4) (⊕-shr (4 * (q % 2)) (vec a (q / 2)) (vec b (q / 2))) ∙ ⊕-mod 4 (vec a (q / 2) / 2 ^ (4 * (q % 2))) (vec b (q / 2) / 2 ^ (4 * (q % 2))))
    ∙ lift-⊕ (vec a (q / 2) / 2 ^ (4 * (q % 2)) % 2 ^ 4) (vec b (q / 2) / 2 ^ (4 * (q % 2)) % 2 ^ 4)

-- ---- the buffer's rows

module _ (f : List ℕ) (raw : ℕ → ℕ → ℕ) (F : Folds f raw 256) where
  x-fold : (q : ℕ) → q < 56 → x_fold f q ≡ fold_of 8 raw (element q)
  unfolding x_fold fold_of
  x-fold q h =
      sum-ext 8 _ _
      (λ j hj.
      ap ((2 ^ j) ⊗◌)
      (lifted-part (56 * (j + 1)) f q h ∙ ap (λ (x : ℕ). lift (x / 2 ^ (4 * (q % 2)) % 2 ^ 4)) (F.fd j (q / 2) hj (omega arith))))

  u-fold : (i : ℕ) → i < 28 → u_fold f i ≡ fold_of 8 raw (λ t. t (28 + i))
  unfolding u_fold fold_of
  u-fold i h = sum-ext 8 _ _ (λ j hj. ap ((2 ^ j) ⊗◌) (F.fd j (28 + i) hj (omega arith)))

  x-acc : (q : ℕ) → q < 56 → lifted (part 0 28 f) q ≡ acc_of 8 raw (element q)
  unfolding acc_of
  x-acc q h = lifted-front f q h ∙ ap (λ (x : ℕ). lift (x / 2 ^ (4 * (q % 2)) % 2 ^ 4)) (F.acc (q / 2) (omega arith))

  byte-acc : (b : ℕ) → b < 56 → vec f b ≡ acc_of 8 raw (λ t. t b)
  unfolding acc_of
  byte-acc b h = F.acc b h

-- ---- the lines of the tapes, leaf i hidden

module _ (f : List ℕ) (tape : ℕ → List ℕ) (i : ℕ) (F : Folds f (hide i (λ k. vec (tape k))) 256) where
  x-shares : (q : ℕ) → q < 56 → skip i (λ k. element q (vec (tape k))) ≡ skip i (λ k. lifted (part 0 28 (tape k)) q)
  x-shares q h = ap (skip i) (fun_ext (λ k. sym (lifted-front (tape k) q h)))

  u-shares : (j : ℕ) → j < 28 → skip i (λ k. vec (tape k) (28 + j)) ≡ skip i (λ k. vec (part 28 28 (tape k)) j)
  u-shares j h = ap (skip i) (fun_ext (λ k. sym (vec-part 28 28 (tape k) j h)))

  pub folds-x : (q : ℕ) → q < 56 → x_fold f q ≡ constant_of 256 point (skip i (λ k. lifted (part 0 28 (tape k)) q))
  folds-x q h =
      x-fold f _ F q h
      ∙ folding-fold-hidden (element q) (reads-half (4 * (q % 2)) (q / 2)) 8 i (λ k. vec (tape k))
      ∙ ap (constant_of 256 point) (x-shares q h)

  pub folds-u : (j : ℕ) → j < 28 → u_fold f j ≡ constant_of 256 point (skip i (λ k. vec (part 28 28 (tape k)) j))
  folds-u j h =
      u-fold f _ F j h
      ∙ folding-fold-hidden (λ t. t (28 + j)) (reads_byte (28 + j)) 8 i (λ k. vec (tape k))
      ∙ ap (constant_of 256 point) (u-shares j h)

  pub folds-sum-x : (q : ℕ) → q < 56 → lifted (part 0 28 f) q ≡ sum 256 (skip i (λ k. lifted (part 0 28 (tape k)) q))
  folds-sum-x q h =
      x-acc f _ F q h
      ∙ folding-acc-hidden (element q) (reads-half (4 * (q % 2)) (q / 2)) 8 i (λ k. vec (tape k))
      ∙ ap (sum 256) (x-shares q h)

  pub folds-sum : (b : ℕ) → b < 56 → vec f b ≡ sum 256 (skip i (λ k. vec (tape k) b))
  folds-sum b h = byte-acc f _ F b h ∙ folding-acc-hidden (λ t. t b) (reads_byte b) 8 i (λ k. vec (tape k))

  pub folds-sum-u : (j : ℕ) → j < 28 → vec f (28 + j) ≡ sum 256 (skip i (λ k. vec (part 28 28 (tape k)) j))
  folds-sum-u j h = folds-sum (28 + j) (omega arith) ∙ ap (sum 256) (u-shares j h)

  -- the values at a point
  pub folds-x-at : (d : List ℕ) (r q : ℕ) → length f ≡ 504 → length d ≡ 12 → q < 56
      → x_at f d r q ≡ value_of 256 point (skip i (λ k. lifted (part 0 28 (tape k)) q)) (lifted (zero16 ++ d) q) r
  unfolding x_at corrected
  folds-x-at d r q lf ld h =
      ap₂ (λ (a c : ℕ). line a c r)
      (lifted-xor_b (zero16 ++ d) (part 0 28 f) q (omega (arith, padded)) (omega (arith, length_part 0 28 f (omega arith)))
      ∙ ap (lifted (zero16 ++ d) q ⊕◌) (folds-sum-x q h))
      (folds-x q h)
    where
      padded : length (zero16 ++ d) ≡ 28
      padded = length-append zero16 d ∙ ap (16 +◌) ld

  pub folds-u-at : (r j : ℕ) → j < 28 → u_at f r j ≡ value_of 256 point (skip i (λ k. vec (part 28 28 (tape k)) j)) 0 r
  unfolding u_at
  folds-u-at r j h = ap₂ (λ (a c : ℕ). line a c r) (folds-sum-u j h ∙ sym (⊕-zero-l _)) (folds-u j h)

-- ---- none hidden

skip-none : (w s : ℕ → ℕ) → constant_of 256 w (skip 256 s) ≡ constant_of 256 w s
skip-none w s = sum-ext 256 _ _ (λ k h. ap (w k ⊗◌) (skip-other 256 s k (λ e. omega arith)))

module _ (f : List ℕ) (tape : ℕ → List ℕ) (F : Folds f (hide 256 (λ k. vec (tape k))) 256) where
  -- x_0, u_0 and u_1
  pub folds-x0 : tab 56 (x_fold f) ≡ tab 56 (λ q. constant_of 256 point (λ k. lifted (part 0 28 (tape k)) q))
  folds-x0 = tab-ext 56 _ _ (λ q h. folds-x f tape 256 F q h ∙ skip-none point _)

  pub folds-u0 : tab 28 (u_fold f) ≡ tab 28 (λ j. constant_of 256 point (λ k. vec (part 28 28 (tape k)) j))
  folds-u0 = tab-ext 28 _ _ (λ j h. folds-u f tape 256 F j h ∙ skip-none point _)

  pub folds-u1 : length f ≡ 504 → u_acc f ≡ tab 28 (λ j. sum 256 (λ k. vec (part 28 28 (tape k)) j))
  unfolding u_acc
  folds-u1 lf =
      is-tab 28 _ (part 28 28 f) (length_part 28 28 f (omega arith))
      (λ j h. vec-part 28 28 f j h ∙ folds-sum-u f tape 256 F j h ∙ sum-skip-past 256 256 _ (omega arith))

  -- NextBits of the correction
  pub folds-sent : (x : List ℕ) → length f ≡ 504 → length x ≡ 28
      → sent f x ≡ part 16 12 (tab 28 (λ b. correction_of 256 (λ k. vec (part 0 28 (tape k)) b) (vec x b)))
  unfolding sent
  folds-sent x lf lx =
      is-tab 12 δ (xor_b (part 16 12 x) (part 16 12 f)) (length-xor_b 12 _ _ lx' lf')
      (λ b h.
      vec-xor_b (part 16 12 x) (part 16 12 f) b (omega (arith, lx')) (omega (arith, lf'))
      ∙ ap₂ ◌⊕◌ (vec-part 16 12 x b h)
      (vec-part 16 12 f b h ∙ folds-sum f tape 256 F (16 + b) (omega arith) ∙ sum-skip-past 256 256 _ (omega arith)
      ∙ sum-ext 256 _ _ (λ k hk. sym (vec-part 0 28 (tape k) (16 + b) (omega arith) ∙ ap (vec (tape k)) (zero-add (16 + b))))))
      ∙ sym (is-tab 12 δ (part 16 12 whole) (length_part 16 12 whole (omega (arith, length-tab 28 δ')))
      (λ b h. vec-part 16 12 whole b h ∙ vec-tab 28 δ' (16 + b) (omega arith)))
    where
      δ' : ℕ → ℕ
      δ' b = correction_of 256 (λ k. vec (part 0 28 (tape k)) b) (vec x b)

      δ : ℕ → ℕ
      δ b = δ' (16 + b)

      whole : List ℕ
      whole = tab 28 δ'

      lx' : length (part 16 12 x) ≡ 12
      lx' = length_part 16 12 x (omega arith)

      lf' : length (part 16 12 f) ≡ 12
      lf' = length_part 16 12 f (omega arith)

-- ---- the correction in the code: 12 bytes added to the last of 28

pub corrected-write : (f d c y : List ℕ) → length f ≡ 504 → length d ≡ 12 → c ≡ part 0 28 f → y ≡ xor_b (take 12 (drop 16 c)) d
    → take 16 c ++ (y ++ drop 12 (drop 16 c)) ≡ corrected f d
unfolding corrected
corrected-write f d c y lf ld ec ey =
    ap₂ (λ (l m : List ℕ). take 16 c ++ (l ++ m)) (ey ∙ xor_b-comm (take 12 (drop 16 c)) d ∙ ap (xor_b d) (take_all 12 (drop 16 c) short))
    (drop_of_length-le (drop 16 c) {i = 12} short)
    ∙ ap (λ (l : List ℕ). take 16 c ++ l) (append-nil (xor_b d (drop 16 c)))
    ∙ ap (λ (l : List ℕ). l ++ xor_b d (drop 16 c)) (sym (xor_b-zeros-l 16 (take 16 c) front))
    ∙ sym (xor_b-append zero16 d (take 16 c) (drop 16 c) (sym front))
    ∙ ap (xor_b (zero16 ++ d)) (take-append-drop 16 c ∙ ec)
  where
    lc : length c ≡ 28
    lc = ap length ec ∙ length_part 0 28 f (omega arith)

    front : length (take 16 c) ≡ 16
    front = length-take-le 16 c (omega (arith, lc))

    short : length (drop 16 c) ≤ 12
    short = simp length-drop (omega (arith, lc))
