-- Of each call's contract two wrong answers that it rules out: one that gives too much, one that refuses for nothing. Assumes nothing.
use mathlib.Core.Path.{◌≡◌, sym, ◌∙◌}
use mathlib.Core.Bool.{true, false, true≢false}
use mathlib.Core.List.{List}
use Prim.Native.Nat.{ℕ, ◌<◌}
use lib.ListN.{length}
use Rattle.paper.specs.Keys.{satisfied}
use Rattle.paper.specs.Alpha.{r3}
use Rattle.paper.specs.Challenge.{passes}
use Rattle.paper.specs.Scheme.{sign_challenge, verif_of}
use Rattle.mqom.specs.Calls.{MakesKeys, SignsMessage, ChecksSignature}
use Rattle.mqom.specs.Words.{KeygenSized}
use Rattle.mqom.proofs.Exactly.{keygen-exactly-0, keygen-exactly-1, sign-exactly-0, sign-exactly-5-tries, check-exactly-0, check-exactly-6}

module _ {seed pk sk work pk' sk' work' : List ℕ} where
  -- keys of a seed that was filled up or cut
  pub no-keys-of-another-length : ¬ (length seed ≡ 32) → ¬ (MakesKeys seed pk sk work 0 pk' sk' work')
  no-keys-of-another-length h c = h ((keygen-exactly-0 seed (length pk) (length sk) (length work)).0 (sym c.ends.number)).seed-32

  pub no-keys-refused-for-nothing : KeygenSized seed (length pk) (length sk) (length work) → ¬ (MakesKeys seed pk sk work 1 pk' sk' work')
  no-keys-refused-for-nothing s c = (keygen-exactly-1 seed (length pk) (length sk) (length work)).0 (sym c.ends.number) s

module _ {sk msg salt mseed : List ℕ} {tries : ℕ} {sig work sig' work' : List ℕ} where
  -- a signature with a key that does not satisfy its equations
  pub no-signature-of-another-solution : satisfied sk ≡ false → ¬ (SignsMessage sk msg salt mseed tries sig work 0 sig' work')
  no-signature-of-another-solution h c =
      let e = (sign-exactly-0 sk msg salt mseed tries (length sig) (length work)).0 (sym c.ends.number) in
      true≢false (sym e.3 ∙ h)

  -- giving up where one of the allowed tries passes
  pub no-giving-up-early : (k : ℕ) → k < tries → passes (sign_challenge r3 sk msg salt mseed k) ≡ true
      → ¬ (SignsMessage sk msg salt mseed tries sig work 5 sig' work')
  no-giving-up-early k l h c =
      let e = (sign-exactly-5-tries sk msg salt mseed tries (length sig) (length work)).0 (sym c.ends.number) in
      true≢false (sym h ∙ e.4 k l)

module _ {pk msg sig work work' : List ℕ} where
  pub no-acceptance-of-a-rejected : verif_of r3 pk msg sig ≡ false → ¬ (ChecksSignature pk msg sig work 0 work')
  no-acceptance-of-a-rejected h c =
      let e = (check-exactly-0 pk msg sig (length work)).0 (sym c.ends.number) in
      true≢false (sym e.2 ∙ h)

  pub no-rejection-of-an-accepted : verif_of r3 pk msg sig ≡ true → ¬ (ChecksSignature pk msg sig work 6 work')
  no-rejection-of-an-accepted h c =
      let e = (check-exactly-6 pk msg sig (length work)).0 (sym c.ends.number) in
      true≢false (sym h ∙ e.2)
