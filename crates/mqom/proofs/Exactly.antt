-- Each number of each call is given exactly when document 01 says: both directions, the lowest number first. Assumes nothing.
use mathlib.Core.Path.{◌≡◌, refl, sym, ◌∙◌}
use mathlib.Core.Logic.Iff
use mathlib.Core.Logic.{◌↔◌, ◌≢◌}
use mathlib.Core.Bool.{Bool, true, false, true≢false}
use mathlib.Core.List.{List}
use mathlib.Core.Option.{none, some}
use Prim.Native.Nat.{ℕ, ◌<◌}
use native.Mathlib.Omega.{arith}
use Rattle.std.proofs.lemmas.Bool.{false_from_ne_true}
use Rattle.paper.specs.Keys.{key_gen, satisfied}
use Rattle.paper.specs.Alpha.{r3}
use Rattle.paper.specs.Scheme.{sign_of, verif_of}
use Rattle.paper.proofs.Scheme.{FirstPassing, sign-place}
use Rattle.mqom.specs.Outcome.{Outcome, refused, failed, done, number_of, unless}
use Rattle.mqom.specs.Calls.{keygen_lengths, check_lengths, sign_lengths, message_fits, tries_allowed, signed, keygen_all, sign_all, check_all}
use Rattle.mqom.specs.Words.{KeygenSized, SignSized, CheckSized, Fits, TooLong, TriesWithin, TriesOutside, NonePasses}
use Rattle.mqom.proofs.Nested.{either, exactly-here, exactly-later, exactly-end}
use Rattle.mqom.proofs.Asked.{tells-keygen, tells-sign, tells-check, tells-message, too_long, tells-tries, tries-outside, signed-0, signed-5, signed-any}
use Rattle.mqom.proofs.Search.{signed-with, spent}

is_false : (t : Bool) → ¬ (t ≡ true) ↔ (t ≡ false)
is_false t = (false_from_ne_true t, λ e k. true≢false (sym k ∙ e))

-- ---- a flat product for a nested one

module _ {A B C : Type 0} where
  three : (A × (B × C)) ↔ (A × B × C)
  three = (λ h. (h.0, h.1.0, h.1.1), λ h. (h.0, (h.1, h.2)))

module _ {A B C D : Type 0} where
  four : (A × (B × (C × D))) ↔ (A × B × C × D)
  four = (λ h. (h.0, h.1.0, h.1.1.0, h.1.1.1), λ h. (h.0, (h.1, (h.2, h.3))))

module _ {A B C D E : Type 0} where
  five : (A × (B × (C × (D × E)))) ↔ (A × B × C × D × E)
  five = (λ h. (h.0, h.1.0, h.1.1.0, h.1.1.1.0, h.1.1.1.1), λ h. (h.0, (h.1, (h.2, (h.3, h.4)))))

-- ---- key generation

module _ (seed : List ℕ) (pk_len sk_len work_len : ℕ) where
  pub keygen-exactly-1 : (number_of (keygen_all seed pk_len sk_len work_len) ≡ 1) ↔ ¬ (KeygenSized seed pk_len sk_len work_len)
  unfolding keygen_all
  keygen-exactly-1 = exactly-here 1 _ _ _ (tells-keygen seed pk_len sk_len work_len) refl (λ e. omega arith)

  pub keygen-exactly-0 : (number_of (keygen_all seed pk_len sk_len work_len) ≡ 0) ↔ KeygenSized seed pk_len sk_len work_len
  unfolding keygen_all
  keygen-exactly-0 = exactly-end 0 _ _ _ (tells-keygen seed pk_len sk_len work_len) (λ e. omega arith) refl

  -- no other number is given
  pub keygen-numbers : (P : ℕ → Type 0) → P 0 → P 1 → P (number_of (keygen_all seed pk_len sk_len work_len))
  unfolding keygen_all
  keygen-numbers P p0 p1 = either P (keygen_lengths seed pk_len sk_len work_len) (refused 1) (done (key_gen seed)) p1 p0

-- ---- signing

module _ (sk msg salt mseed : List ℕ) (tries : ℕ) where
  -- what is asked after number 1, 2 and 3
  abbrev after3 : Outcome (List ℕ)
  after3 = unless (satisfied sk) (failed 4) (signed (sign_of r3 sk msg salt mseed tries))

  abbrev after2 : Outcome (List ℕ)
  after2 = unless (tries_allowed tries) (refused 3) after3

  abbrev after1 : Outcome (List ℕ)
  after1 = unless (message_fits msg) (refused 2) after2

  -- what holds of each number that can still be given
  any3 : (P : ℕ → Type 0) → P 4 → P 5 → P 0 → P (number_of after3)
  any3 P p4 p5 p0 = either P (satisfied sk) (failed 4) (signed (sign_of r3 sk msg salt mseed tries)) p4 (signed-any P p5 p0 (sign_of r3 sk msg salt mseed tries))

  any2 : (P : ℕ → Type 0) → P 3 → P 4 → P 5 → P 0 → P (number_of after2)
  any2 P p3 p4 p5 p0 = either P (tries_allowed tries) (refused 3) after3 p3 (any3 P p4 p5 p0)

  any1 : (P : ℕ → Type 0) → P 2 → P 3 → P 4 → P 5 → P 0 → P (number_of after1)
  any1 P p2 p3 p4 p5 p0 = either P (message_fits msg) (refused 2) after2 p2 (any2 P p3 p4 p5 p0)

  module _ (sig_len work_len : ℕ) where
    abbrev Sized : Type 0
    Sized = SignSized sk salt mseed sig_len work_len

    abbrev number : ℕ
    number = number_of (sign_all sk msg salt mseed tries sig_len work_len)

    -- past number 1; past 1 and 2; past 1, 2 and 3; past 1 to 4
    past1 : {Q : Type 0} (n : ℕ) → n ≢ 1 → (number_of after1 ≡ n) ↔ Q → (number ≡ n) ↔ (Sized × Q)
    unfolding sign_all
    past1 n h q = exactly-later n _ _ _ (tells-sign sk salt mseed sig_len work_len) (λ e. h (sym e)) q

    past2 : {Q : Type 0} (n : ℕ) → n ≢ 1 → n ≢ 2 → (number_of after2 ≡ n) ↔ Q → (number ≡ n) ↔ (Sized × (Fits msg × Q))
    past2 n h1 h2 q = past1 n h1 (exactly-later n _ _ _ (tells-message msg) (λ e. h2 (sym e)) q)

    past3 : {Q : Type 0} (n : ℕ) → n ≢ 1 → n ≢ 2 → n ≢ 3 → (number_of after3 ≡ n) ↔ Q
        → (number ≡ n) ↔ (Sized × (Fits msg × (TriesWithin tries × Q)))
    past3 n h1 h2 h3 q = past2 n h1 h2 (exactly-later n _ _ _ (tells-tries tries) (λ e. h3 (sym e)) q)

    past4 : {Q : Type 0} (n : ℕ) → n ≢ 1 → n ≢ 2 → n ≢ 3 → n ≢ 4 → (number_of (signed (sign_of r3 sk msg salt mseed tries)) ≡ n) ↔ Q
        → (number ≡ n) ↔ (Sized × Fits msg × TriesWithin tries × (satisfied sk ≡ true) × Q)
    past4 n h1 h2 h3 h4 q = Iff.trans (past3 n h1 h2 h3 (exactly-later n _ _ _ Iff.rfl (λ e. h4 (sym e)) q)) five

    pub sign-exactly-1 : (number ≡ 1) ↔ ¬ Sized
    unfolding sign_all
    sign-exactly-1 =
        exactly-here 1 _ _ _ (tells-sign sk salt mseed sig_len work_len) refl
        (any1 (λ n. n ≢ 1) (λ e. omega arith) (λ e. omega arith) (λ e. omega arith) (λ e. omega arith) (λ e. omega arith))

    pub sign-exactly-2 : (number ≡ 2) ↔ (Sized × TooLong msg)
    sign-exactly-2 =
        past1 2 (λ e. omega arith)
        (Iff.trans
        (exactly-here 2 _ _ _ (tells-message msg) refl
        (any2 (λ n. n ≢ 2) (λ e. omega arith) (λ e. omega arith) (λ e. omega arith) (λ e. omega arith)))
        (too_long msg))

    pub sign-exactly-3 : (number ≡ 3) ↔ (Sized × Fits msg × TriesOutside tries)
    sign-exactly-3 =
        Iff.trans
        (past2 3 (λ e. omega arith) (λ e. omega arith)
        (Iff.trans
        (exactly-here 3 _ _ _ (tells-tries tries) refl (any3 (λ n. n ≢ 3) (λ e. omega arith) (λ e. omega arith) (λ e. omega arith)))
        (tries-outside tries)))
        three

    pub sign-exactly-4 : (number ≡ 4) ↔ (Sized × Fits msg × TriesWithin tries × (satisfied sk ≡ false))
    sign-exactly-4 =
        Iff.trans
        (past3 4 (λ e. omega arith) (λ e. omega arith) (λ e. omega arith)
        (Iff.trans
        (exactly-here 4 _ _ _ Iff.rfl refl (signed-any (λ n. n ≢ 4) (λ e. omega arith) (λ e. omega arith) (sign_of r3 sk msg salt mseed tries)))
        (is_false (satisfied sk))))
        four

    pub sign-exactly-5 : (number ≡ 5) ↔ (Sized × Fits msg × TriesWithin tries × (satisfied sk ≡ true) × (sign_of r3 sk msg salt mseed tries ≡ none))
    sign-exactly-5 =
        past4 5 (λ e. omega arith) (λ e. omega arith) (λ e. omega arith) (λ e. omega arith) (signed-5 (sign_of r3 sk msg salt mseed tries))

    -- none of the allowed tries passes
    pub sign-exactly-5-tries : (number ≡ 5) ↔ (Sized × Fits msg × TriesWithin tries × (satisfied sk ≡ true) × NonePasses sk msg salt mseed tries)
    sign-exactly-5-tries =
        past4 5 (λ e. omega arith) (λ e. omega arith) (λ e. omega arith) (λ e. omega arith)
        (Iff.trans (signed-5 (sign_of r3 sk msg salt mseed tries)) (spent sk msg salt mseed tries))

    pub sign-exactly-0 : (number ≡ 0)
        ↔ (Sized × Fits msg × TriesWithin tries × (satisfied sk ≡ true) × ((sig : List ℕ) × (sign_of r3 sk msg salt mseed tries ≡ some sig)))
    sign-exactly-0 =
        past4 0 (λ e. omega arith) (λ e. omega arith) (λ e. omega arith) (λ e. omega arith) (signed-0 (sign_of r3 sk msg salt mseed tries))

    -- one of the allowed tries passes
    pub sign-exactly-0-tries : (number ≡ 0)
        ↔ (Sized × Fits msg × TriesWithin tries × (satisfied sk ≡ true) × ((n : ℕ) × (n < tries) × FirstPassing r3 sk msg salt mseed n))
    sign-exactly-0-tries =
        past4 0 (λ e. omega arith) (λ e. omega arith) (λ e. omega arith) (λ e. omega arith)
        (Iff.trans (signed-0 (sign_of r3 sk msg salt mseed tries)) (
          λ h. let w = signed-with sk msg salt mseed tries h.0 h.1 in (w.0, w.1.below, w.1.first),
          λ h. (_, sign-place r3 sk msg salt mseed h.0 tries h.2 h.1),
        ))

    -- no other number is given
    pub sign_numbers : (P : ℕ → Type 0) → P 0 → P 1 → P 2 → P 3 → P 4 → P 5 → P number
    unfolding sign_all
    sign_numbers P p0 p1 p2 p3 p4 p5 = either P (sign_lengths sk salt mseed sig_len work_len) (refused 1) after1 p1 (any1 P p2 p3 p4 p5 p0)

-- ---- checking

module _ (pk msg sig : List ℕ) (work_len : ℕ) where
  -- what is asked after number 1 and 2
  abbrev judged : Outcome (Unit {0})
  judged = unless (verif_of r3 pk msg sig) (failed 6) (done tt)

  abbrev read : Outcome (Unit {0})
  read = unless (message_fits msg) (refused 2) judged

  abbrev answer : ℕ
  answer = number_of (check_all pk msg sig work_len)

  any-judged : (P : ℕ → Type 0) → P 6 → P 0 → P (number_of judged)
  any-judged P p6 p0 = either P (verif_of r3 pk msg sig) (failed 6) (done tt) p6 p0

  any-read : (P : ℕ → Type 0) → P 2 → P 6 → P 0 → P (number_of read)
  any-read P p2 p6 p0 = either P (message_fits msg) (refused 2) judged p2 (any-judged P p6 p0)

  past-both : {Q : Type 0} (n : ℕ) → n ≢ 1 → n ≢ 2 → (number_of judged ≡ n) ↔ Q → (answer ≡ n) ↔ (CheckSized pk sig work_len × Fits msg × Q)
  unfolding check_all
  past-both n h1 h2 q =
      Iff.trans
      (exactly-later n _ _ _ (tells-check pk sig work_len) (λ e. h1 (sym e)) (exactly-later n _ _ _ (tells-message msg) (λ e. h2 (sym e)) q))
      three

  pub check-exactly-1 : (answer ≡ 1) ↔ ¬ (CheckSized pk sig work_len)
  unfolding check_all
  check-exactly-1 =
      exactly-here 1 _ _ _ (tells-check pk sig work_len) refl (any-read (λ n. n ≢ 1) (λ e. omega arith) (λ e. omega arith) (λ e. omega arith))

  pub check-exactly-2 : (answer ≡ 2) ↔ (CheckSized pk sig work_len × TooLong msg)
  unfolding check_all
  check-exactly-2 =
      exactly-later 2 _ _ _ (tells-check pk sig work_len) (λ e. omega arith)
      (Iff.trans (exactly-here 2 _ _ _ (tells-message msg) refl (any-judged (λ n. n ≢ 2) (λ e. omega arith) (λ e. omega arith))) (too_long msg))

  pub check-exactly-6 : (answer ≡ 6) ↔ (CheckSized pk sig work_len × Fits msg × (verif_of r3 pk msg sig ≡ false))
  check-exactly-6 =
      past-both 6 (λ e. omega arith) (λ e. omega arith)
      (Iff.trans (exactly-here 6 _ _ _ Iff.rfl refl (λ e. omega arith)) (is_false (verif_of r3 pk msg sig)))

  pub check-exactly-0 : (answer ≡ 0) ↔ (CheckSized pk sig work_len × Fits msg × (verif_of r3 pk msg sig ≡ true))
  check-exactly-0 = past-both 0 (λ e. omega arith) (λ e. omega arith) (exactly-end 0 _ _ _ Iff.rfl (λ e. omega arith) refl)

  -- no other number is given
  pub check-numbers : (P : ℕ → Type 0) → P 0 → P 1 → P 2 → P 6 → P answer
  unfolding check_all
  check-numbers P p0 p1 p2 p6 = either P (check_lengths pk sig work_len) (refused 1) read p1 (any-read P p2 p6 p0)
