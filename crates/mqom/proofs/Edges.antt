-- Document 01, 'Both sides of each edge', of the three calls. Assumes nothing.
use mathlib.Core.Path.{◌≡◌, sym, ap, ◌∙◌}
use mathlib.Core.Logic.{◌≢◌, ⊎_elim}
use mathlib.Core.Bool.{true, false, true≢false}
use mathlib.Core.List.{List}
use Prim.Native.Nat.{ℕ, ◌+◌, ◌<◌, ◌≤◌}
use native.Mathlib.Omega.{arith}
use lib.ListN.{length}
use Rattle.paper.specs.Keys.{key_gen, satisfied}
use Rattle.paper.specs.Alpha.{r3}
use Rattle.paper.specs.Challenge.{passes}
use Rattle.paper.specs.Scheme.{sign_challenge, sign_with}
use Rattle.paper.proofs.Keys.{generated-satisfied}
use Rattle.paper.proofs.Scheme.{FirstPassing, sign-short, sign-place}
use Rattle.paper.proofs.Signed.{sign-none}
use Rattle.mqom.specs.Outcome.{Outcome, refused, failed, done, number_of}
use Rattle.mqom.specs.Calls.{sign_all, check_all}
use Rattle.mqom.specs.Words.{SignSized, CheckSized, Fits, TooLong}
use Rattle.mqom.proofs.Branches.{sign-work, sign-message, sign_zero, sign_above, sign-spent, sign-done, check-sig, check-work, check-message}
use Rattle.mqom.proofs.Exactly.{sign-exactly-2, sign-exactly-3, sign-exactly-4, check-exactly-2}

module _ (sk msg salt mseed : List ℕ) (tries sig_len work_len : ℕ) where
  abbrev signs : Outcome (List ℕ)
  signs = sign_all sk msg salt mseed tries sig_len work_len

  -- ---- the message

  -- of 0 to 65,536 bytes is not refused
  pub sign-message-fits : length msg ≤ 65536 → number_of signs ≢ 2
  sign-message-fits h e = let p = (sign-exactly-2 sk msg salt mseed tries sig_len work_len).0 e in omega arith

  pub sign-message-empty : length msg ≡ 0 → number_of signs ≢ 2
  sign-message-empty h = sign-message-fits (omega arith)

  pub sign-message-65536 : length msg ≡ 65536 → number_of signs ≢ 2
  sign-message-65536 h = sign-message-fits (omega arith)

  pub sign-message-65537 : SignSized sk salt mseed sig_len work_len → length msg ≡ 65537 → signs ≡ refused 2
  sign-message-65537 s h = sign-message sk msg salt mseed tries sig_len work_len s (omega arith)

  -- message too long and tries 0 together
  pub sign-message-and-tries : SignSized sk salt mseed sig_len work_len → TooLong msg → tries ≡ 0 → signs ≡ refused 2
  sign-message-and-tries s h t = sign-message sk msg salt mseed tries sig_len work_len s h

  -- wrong workspace and message too long
  pub sign-work-and-message : work_len ≢ 65536 → TooLong msg → signs ≡ refused 1
  sign-work-and-message w h = sign-work sk msg salt mseed tries sig_len work_len w

  -- ---- the tries

  pub sign-tries-0 : SignSized sk salt mseed sig_len work_len → Fits msg → tries ≡ 0 → signs ≡ refused 3
  sign-tries-0 s f h = sign_zero sk msg salt mseed tries sig_len work_len s f h

  pub sign-tries-allowed : 1 ≤ tries → tries ≤ 1048576 → number_of signs ≢ 3
  sign-tries-allowed l u e =
      let p = (sign-exactly-3 sk msg salt mseed tries sig_len work_len).0 e in
      ⊎_elim (λ (z : tries ≡ 0). omega arith) (λ (a : 1048576 < tries). omega arith) p.2

  pub sign-tries-1 : tries ≡ 1 → number_of signs ≢ 3
  sign-tries-1 h = sign-tries-allowed (omega arith) (omega arith)

  pub sign-tries-1048576 : tries ≡ 1048576 → number_of signs ≢ 3
  sign-tries-1048576 h = sign-tries-allowed (omega arith) (omega arith)

  pub sign-tries-1048577 : SignSized sk salt mseed sig_len work_len → Fits msg → tries ≡ 1048577 → signs ≡ refused 3
  sign-tries-1048577 s f h = sign_above sk msg salt mseed tries sig_len work_len s f (omega arith)

  -- ---- the secret key

  -- a secret key from key generation never meets 4
  pub sign-generated : (seed : List ℕ) → sk ≡ (key_gen seed).sk → number_of signs ≢ 4
  sign-generated seed k e =
      true≢false (sym (ap satisfied k ∙ generated-satisfied seed) ∙ ((sign-exactly-4 sk msg salt mseed tries sig_len work_len).0 e).3)

-- ---- the first passing nonce, n: its place, counted from 1, is n + 1

module _ (sk msg salt mseed : List ℕ) (sig_len work_len : ℕ) (sized : SignSized sk salt mseed sig_len work_len) (fits : Fits msg) (ok : satisfied sk ≡ true)
    (n : ℕ) (first : FirstPassing r3 sk msg salt mseed n) where
  -- tries one below its place, where the place is 1
  pub place-1-short : n ≡ 0 → sign_all sk msg salt mseed n sig_len work_len ≡ refused 3
  place-1-short h = sign_zero sk msg salt mseed n sig_len work_len sized fits h

  -- and where it is not
  pub place_short : 1 ≤ n → n ≤ 1048576 → sign_all sk msg salt mseed n sig_len work_len ≡ failed 5
  place_short l u =
      sign-spent sk msg salt mseed n sig_len work_len sized fits (record { some = l; limit = u }) ok (sign-short r3 sk msg salt mseed n first)

  -- more tries than that, up to the limit: signed with this nonce, so always the same bytes
  pub place-more : (tries : ℕ) → n + 1 ≤ tries → tries ≤ 1048576
      → sign_all sk msg salt mseed tries sig_len work_len ≡ done (sign_with r3 sk msg salt mseed n)
  place-more tries l u =
      sign-done sk msg salt mseed tries sig_len work_len sized fits (record { some = omega arith; limit = u }) (sign_with r3 sk msg salt mseed n) ok
      (sign-place r3 sk msg salt mseed n tries first (omega arith))

  -- exactly its place
  pub place-exact : n + 1 ≤ 1048576 → sign_all sk msg salt mseed (n + 1) sig_len work_len ≡ done (sign_with r3 sk msg salt mseed n)
  place-exact u = place-more (n + 1) (omega arith) u

-- ---- one try: signs if the first nonce passes, else 5

module _ (sk msg salt mseed : List ℕ) (sig_len work_len : ℕ) (sized : SignSized sk salt mseed sig_len work_len) (fits : Fits msg) (ok : satisfied sk ≡ true) where
  pub one-try-passes : passes (sign_challenge r3 sk msg salt mseed 0) ≡ true → sign_all sk msg salt mseed 1 sig_len work_len ≡ done (sign_with r3 sk msg salt mseed 0)
  one-try-passes p = place-more sk msg salt mseed sig_len work_len sized fits ok 0 (p, λ k h. absurd (omega arith)) 1 (omega arith) (omega arith)

  pub one-try-fails : passes (sign_challenge r3 sk msg salt mseed 0) ≡ false → sign_all sk msg salt mseed 1 sig_len work_len ≡ failed 5
  one-try-fails p =
      sign-spent sk msg salt mseed 1 sig_len work_len sized fits (record { some = omega arith; limit = omega arith }) ok
      (sign-none r3 sk msg salt mseed 1
      (λ k h. let z : k ≡ 0 = omega arith in ap (λ (m : ℕ). passes (sign_challenge r3 sk msg salt mseed m)) z ∙ p))

-- ---- checking

module _ (pk msg sig : List ℕ) (work_len : ℕ) where
  -- a signature of S - 1 or S + 1 bytes is 1, never 6
  pub check-sig-3483 : length sig ≡ 3483 → check_all pk msg sig work_len ≡ refused 1
  check-sig-3483 h = check-sig pk msg sig work_len (λ e. omega arith)

  pub check-sig-3485 : length sig ≡ 3485 → check_all pk msg sig work_len ≡ refused 1
  check-sig-3485 h = check-sig pk msg sig work_len (λ e. omega arith)

  pub check-message-65536 : length msg ≡ 65536 → number_of (check_all pk msg sig work_len) ≢ 2
  check-message-65536 h e = let p = (check-exactly-2 pk msg sig work_len).0 e in omega arith

  pub check-message-65537 : CheckSized pk sig work_len → length msg ≡ 65537 → check_all pk msg sig work_len ≡ refused 2
  check-message-65537 s h = check-message pk msg sig work_len s (omega arith)

  pub check-work-and-message : work_len ≢ 65536 → TooLong msg → check_all pk msg sig work_len ≡ refused 1
  check-work-and-message w h = check-work pk msg sig work_len w
