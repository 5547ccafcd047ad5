-- Condition 2: a call that is done gives the definition's bytes, and a signature is accepted exactly when the specification's verification
-- accepts. Assumes nothing.
use mathlib.Core.Path.{◌≡◌, sym, ap, ◌∙◌}
use mathlib.Core.Logic.{◌↔◌}
use mathlib.Core.Bool.{true}
use mathlib.Core.List.{List}
use mathlib.Core.Option.{some}
use Prim.Native.Nat.{ℕ}
use lib.ListN.{length}
use Rattle.paper.specs.Keys.{KeyPair, key_gen, satisfied}
use Rattle.paper.specs.Alpha.{r3}
use Rattle.paper.specs.Scheme.{sign_of, verif_of}
use Rattle.mqom.specs.Outcome.{done, number_of}
use Rattle.mqom.specs.Calls.{keygen_all, sign_all, check_all, MakesKeys, SignsMessage, ChecksSignature}
use Rattle.mqom.specs.Words.{SignSized, CheckSized, Fits, TriesWithin}
use Rattle.mqom.proofs.Outcomes.{gave-done}
use Rattle.mqom.proofs.Branches.{keygen-done, sign-done, check-yes}
use Rattle.mqom.proofs.Exactly.{keygen-exactly-0, sign-exactly-0, check-exactly-0}
use Rattle.mqom.proofs.Search.{SignedWith}
use Rattle.mqom.proofs.Made.{FieldsOf, fields-signed}

-- ---- key generation

pub keygen-bytes : (seed : List ℕ) (pk_len sk_len work_len : ℕ) (k : KeyPair) → keygen_all seed pk_len sk_len work_len ≡ done k → k ≡ key_gen seed
keygen-bytes seed pk_len sk_len work_len k e =
    let d = keygen-done seed pk_len sk_len work_len ((keygen-exactly-0 seed pk_len sk_len work_len).0 (ap number_of e)) in cc

pub keys-bytes : {seed pk sk work : List ℕ} {r : ℕ} {pk' sk' work' : List ℕ} → MakesKeys seed pk sk work r pk' sk' work' → r ≡ 0
    → (pk' ≡ (key_gen seed).pk) × (sk' ≡ (key_gen seed).sk)
keys-bytes {seed} {pk} {sk} {work} c h =
    let d = keygen-done seed (length pk) (length sk) (length work)
    ((keygen-exactly-0 seed (length pk) (length sk) (length work)).0 (sym c.ends.number ∙ h)) in
    (gave-done d c.public, gave-done d c.secret)

-- ---- signing

-- what number 0 says of a sign call
pub record Signed (sk msg salt mseed : List ℕ) (tries sig_len work_len : ℕ) (sig : List ℕ) : Type 0 where
  pub sized : SignSized sk salt mseed sig_len work_len
  pub fits : Fits msg
  pub within : TriesWithin tries
  pub satisfies : satisfied sk ≡ true
  pub bytes : sign_of r3 sk msg salt mseed tries ≡ some sig

module _ (sk msg salt mseed : List ℕ) (tries sig_len work_len : ℕ) where
  pub sign-bytes : (sig : List ℕ) → (sign_all sk msg salt mseed tries sig_len work_len ≡ done sig) ↔ Signed sk msg salt mseed tries sig_len work_len sig
  sign-bytes sig = (
    λ e.
        let p = (sign-exactly-0 sk msg salt mseed tries sig_len work_len).0 (ap number_of e) in
        let d = sign-done sk msg salt mseed tries sig_len work_len p.0 p.1 p.2 p.4.0 p.3 p.4.1 in
        let same : p.4.0 ≡ sig = cc in
        record { sized = p.0; fits = p.1; within = p.2; satisfies = p.3; bytes = p.4.1 ∙ ap some same },
    λ s. sign-done sk msg salt mseed tries sig_len work_len s.sized s.fits s.within sig s.satisfies s.bytes,
  )

  -- number 0: the outcome is done
  pub sign-zero-done : number_of (sign_all sk msg salt mseed tries sig_len work_len) ≡ 0
      → (sig : List ℕ) × (sign_all sk msg salt mseed tries sig_len work_len ≡ done sig)
  sign-zero-done h =
      let p = (sign-exactly-0 sk msg salt mseed tries sig_len work_len).0 h in
      (p.4.0, sign-done sk msg salt mseed tries sig_len work_len p.0 p.1 p.2 p.4.0 p.3 p.4.1)

pub signature-bytes : {sk msg salt mseed : List ℕ} {tries : ℕ} {sig work : List ℕ} {r : ℕ} {sig' work' : List ℕ}
    → SignsMessage sk msg salt mseed tries sig work r sig' work' → r ≡ 0 → Signed sk msg salt mseed tries (length sig) (length work) sig'
signature-bytes {sk} {msg} {salt} {mseed} {tries} {sig} {work} {sig' = sig'} c h =
    let z = sign-zero-done sk msg salt mseed tries (length sig) (length work) (sym c.ends.number ∙ h) in
    (sign-bytes sk msg salt mseed tries (length sig) (length work) sig').0 (z.1 ∙ ap done (sym (gave-done z.1 c.signature)))

-- each field of it is what it should be
pub signature-fields : {sk msg salt mseed : List ℕ} {tries : ℕ} {sig work : List ℕ} {r : ℕ} {sig' work' : List ℕ}
    → SignsMessage sk msg salt mseed tries sig work r sig' work' → r ≡ 0
    → (n : ℕ) × SignedWith sk msg salt mseed tries sig' n × FieldsOf sk msg salt mseed n sig'
signature-fields {sk} {msg} {salt} {mseed} {tries} {sig' = sig'} c h =
    let s = signature-bytes c h in
    fields-signed sk msg salt mseed s.sized.sk-88 s.sized.salt-16 s.sized.mseed-16 tries sig' s.bytes

-- ---- checking

pub check-accepts : (pk msg sig : List ℕ) (work_len : ℕ)
    → (check_all pk msg sig work_len ≡ done tt) ↔ (CheckSized pk sig work_len × Fits msg × (verif_of r3 pk msg sig ≡ true))
check-accepts pk msg sig work_len =
    (λ e. (check-exactly-0 pk msg sig work_len).0 (ap number_of e), λ p. check-yes pk msg sig work_len p.0 p.1 p.2)

pub acceptance : {pk msg sig work : List ℕ} {r : ℕ} {work' : List ℕ} → ChecksSignature pk msg sig work r work'
    → (r ≡ 0) ↔ (CheckSized pk sig (length work) × Fits msg × (verif_of r3 pk msg sig ≡ true))
acceptance {pk} {msg} {sig} {work} c = (
  λ h. (check-exactly-0 pk msg sig (length work)).0 (sym c.ends.number ∙ h),
  λ p. c.ends.number ∙ (check-exactly-0 pk msg sig (length work)).1 p,
)
