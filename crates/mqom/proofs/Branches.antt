-- How each call ends, test by test: what its code's branches conclude. Assumes nothing.
use mathlib.Core.Path.{◌≡◌, sym, ap, ◌∙◌}
use mathlib.Core.Logic.Iff
use mathlib.Core.Logic.{◌≢◌}
use mathlib.Core.Bool.{true, false, true≢false}
use mathlib.Core.List.{List}
use mathlib.Core.Option.{none, some}
use Prim.Native.Nat.{ℕ, ◌<◌}
use native.Mathlib.Omega.{arith}
use lib.ListN.{length}
use Rattle.paper.specs.Keys.{key_gen, satisfied}
use Rattle.paper.specs.Alpha.{r3}
use Rattle.paper.specs.Scheme.{sign_of, verif_of}
use Rattle.mqom.specs.Outcome.{refused, failed, done}
use Rattle.mqom.specs.Calls.{keygen_all, sign_all, check_all, signed}
use Rattle.mqom.specs.Words.{KeygenSized, SignSized, CheckSized, Fits, TooLong, TriesWithin}
use Rattle.mqom.proofs.Nested.{goes_on, ends-here}
use Rattle.mqom.proofs.Asked.{tells-keygen, tells-sign, tells-check, tells-message, tells-tries}

-- ---- key generation

module _ (seed : List ℕ) (pk_len sk_len work_len : ℕ) where
  pub keygen-wrong : ¬ (KeygenSized seed pk_len sk_len work_len) → keygen_all seed pk_len sk_len work_len ≡ refused 1
  unfolding keygen_all
  keygen-wrong h = ends-here _ _ _ (tells-keygen seed pk_len sk_len work_len) h

  pub keygen-seed : length seed ≢ 32 → keygen_all seed pk_len sk_len work_len ≡ refused 1
  keygen-seed h = keygen-wrong (λ s. h s.seed-32)

  pub keygen-pk : pk_len ≢ 60 → keygen_all seed pk_len sk_len work_len ≡ refused 1
  keygen-pk h = keygen-wrong (λ s. h s.pk-60)

  pub keygen-sk : sk_len ≢ 88 → keygen_all seed pk_len sk_len work_len ≡ refused 1
  keygen-sk h = keygen-wrong (λ s. h s.sk-88)

  pub keygen-work : work_len ≢ 65536 → keygen_all seed pk_len sk_len work_len ≡ refused 1
  keygen-work h = keygen-wrong (λ s. h s.work-65536)

  pub keygen-done : KeygenSized seed pk_len sk_len work_len → keygen_all seed pk_len sk_len work_len ≡ done (key_gen seed)
  unfolding keygen_all
  keygen-done h = goes_on _ _ _ (tells-keygen seed pk_len sk_len work_len) h

-- ---- signing

module _ (sk msg salt mseed : List ℕ) (tries sig_len work_len : ℕ) where
  pub sign-wrong : ¬ (SignSized sk salt mseed sig_len work_len) → sign_all sk msg salt mseed tries sig_len work_len ≡ refused 1
  unfolding sign_all
  sign-wrong h = ends-here _ _ _ (tells-sign sk salt mseed sig_len work_len) h

  pub sign-sk : length sk ≢ 88 → sign_all sk msg salt mseed tries sig_len work_len ≡ refused 1
  sign-sk h = sign-wrong (λ s. h s.sk-88)

  pub sign-salt : length salt ≢ 16 → sign_all sk msg salt mseed tries sig_len work_len ≡ refused 1
  sign-salt h = sign-wrong (λ s. h s.salt-16)

  pub sign-mseed : length mseed ≢ 16 → sign_all sk msg salt mseed tries sig_len work_len ≡ refused 1
  sign-mseed h = sign-wrong (λ s. h s.mseed-16)

  pub sign-sig : sig_len ≢ 3484 → sign_all sk msg salt mseed tries sig_len work_len ≡ refused 1
  sign-sig h = sign-wrong (λ s. h s.sig-3484)

  pub sign-work : work_len ≢ 65536 → sign_all sk msg salt mseed tries sig_len work_len ≡ refused 1
  sign-work h = sign-wrong (λ s. h s.work-65536)

  module _ (sized : SignSized sk salt mseed sig_len work_len) where
    pub sign-message : TooLong msg → sign_all sk msg salt mseed tries sig_len work_len ≡ refused 2
    unfolding sign_all
    sign-message h =
        goes_on _ _ _ (tells-sign sk salt mseed sig_len work_len) sized
        ∙ ends-here _ _ _ (tells-message msg) (λ k. omega arith)

    module _ (fits : Fits msg) where
      pub sign-tries : ¬ (TriesWithin tries) → sign_all sk msg salt mseed tries sig_len work_len ≡ refused 3
      unfolding sign_all
      sign-tries h =
          goes_on _ _ _ (tells-sign sk salt mseed sig_len work_len) sized
          ∙ goes_on _ _ _ (tells-message msg) fits
          ∙ ends-here _ _ _ (tells-tries tries) h

      pub sign_zero : tries ≡ 0 → sign_all sk msg salt mseed tries sig_len work_len ≡ refused 3
      sign_zero h = sign-tries (λ t. omega arith)

      pub sign_above : 1048576 < tries → sign_all sk msg salt mseed tries sig_len work_len ≡ refused 3
      sign_above h = sign-tries (λ t. omega arith)

      module _ (within : TriesWithin tries) where
        pub sign-unsatisfied : satisfied sk ≡ false → sign_all sk msg salt mseed tries sig_len work_len ≡ failed 4
        unfolding sign_all
        sign-unsatisfied h =
            goes_on _ _ _ (tells-sign sk salt mseed sig_len work_len) sized
            ∙ goes_on _ _ _ (tells-message msg) fits
            ∙ goes_on _ _ _ (tells-tries tries) within
            ∙ ends-here _ _ _ Iff.rfl (λ k. true≢false (sym k ∙ h))

        -- past every refusal and the secret key's test, the search decides
        pub sign-search : satisfied sk ≡ true → sign_all sk msg salt mseed tries sig_len work_len ≡ signed (sign_of r3 sk msg salt mseed tries)
        unfolding sign_all
        sign-search h =
            goes_on _ _ _ (tells-sign sk salt mseed sig_len work_len) sized
            ∙ goes_on _ _ _ (tells-message msg) fits
            ∙ goes_on _ _ _ (tells-tries tries) within
            ∙ goes_on _ _ _ Iff.rfl h

        pub sign-spent : satisfied sk ≡ true → sign_of r3 sk msg salt mseed tries ≡ none → sign_all sk msg salt mseed tries sig_len work_len ≡ failed 5
        unfolding signed
        sign-spent h e = sign-search h ∙ ap signed e

        pub sign-done : (sig : List ℕ) → satisfied sk ≡ true → sign_of r3 sk msg salt mseed tries ≡ some sig
            → sign_all sk msg salt mseed tries sig_len work_len ≡ done sig
        unfolding signed
        sign-done sig h e = sign-search h ∙ ap signed e

-- ---- checking

module _ (pk msg sig : List ℕ) (work_len : ℕ) where
  pub check-wrong : ¬ (CheckSized pk sig work_len) → check_all pk msg sig work_len ≡ refused 1
  unfolding check_all
  check-wrong h = ends-here _ _ _ (tells-check pk sig work_len) h

  pub check-pk : length pk ≢ 60 → check_all pk msg sig work_len ≡ refused 1
  check-pk h = check-wrong (λ s. h s.pk-60)

  pub check-sig : length sig ≢ 3484 → check_all pk msg sig work_len ≡ refused 1
  check-sig h = check-wrong (λ s. h s.sig-3484)

  pub check-work : work_len ≢ 65536 → check_all pk msg sig work_len ≡ refused 1
  check-work h = check-wrong (λ s. h s.work-65536)

  module _ (sized : CheckSized pk sig work_len) where
    pub check-message : TooLong msg → check_all pk msg sig work_len ≡ refused 2
    unfolding check_all
    check-message h = goes_on _ _ _ (tells-check pk sig work_len) sized ∙ ends-here _ _ _ (tells-message msg) (λ k. omega arith)

    module _ (fits : Fits msg) where
      pub check-yes : verif_of r3 pk msg sig ≡ true → check_all pk msg sig work_len ≡ done tt
      unfolding check_all
      check-yes h =
          goes_on _ _ _ (tells-check pk sig work_len) sized ∙ goes_on _ _ _ (tells-message msg) fits ∙ goes_on _ _ _ Iff.rfl h

      pub check-no : verif_of r3 pk msg sig ≡ false → check_all pk msg sig work_len ≡ failed 6
      unfolding check_all
      check-no h =
          goes_on _ _ _ (tells-check pk sig work_len) sized
          ∙ goes_on _ _ _ (tells-message msg) fits
          ∙ ends-here _ _ _ Iff.rfl (λ k. true≢false (sym k ∙ h))
