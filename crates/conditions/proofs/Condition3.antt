-- Condition 3: a signature that a sign call gives, the check call accepts under the public key that belongs to the secret key; in every
-- tree the checker's leaves are the signer's, but for the hidden one; more allowed tries give the same bytes. Stated over the calls of
-- conditions 1 and 2. Assumes nothing.
use mathlib.Core.Path.{◌≡◌, refl, sym, ap, ◌∙◌, subst}
use mathlib.Core.Logic.{◌≢◌}
use mathlib.Core.List.{List}
use Prim.Native.Nat.{ℕ, ◌<◌, ◌≤◌}
use native.Mathlib.Omega.{arith}
use lib.ListN.{length}
use Rattle.paper.specs.Keys.{public_of}
use Rattle.paper.specs.Alpha.{r3}
use Rattle.paper.specs.Scheme.{sig_hidden, check_leaf, sign_leaf}
use Rattle.paper.proofs.Keys.{length-public_of, public-of-generated}
use Rattle.paper.proofs.Scheme.{Signs, condition3}
use Rattle.mqom.specs.Outcome.{done}
use Rattle.mqom.specs.Calls.{sign_all, check_all, MakesKeys, SignsMessage, ChecksSignature}
use Rattle.conditions.proofs.Condition2.{Signed, sign-bytes, check-accepts, keys-bytes, signature-bytes, acceptance}

-- what the definitions say of it
signs : (sk msg salt mseed : List ℕ) (tries sig_len work_len : ℕ) (sig : List ℕ) → Signed sk msg salt mseed tries sig_len work_len sig
    → Signs sk msg salt mseed tries sig
signs sk msg salt mseed tries sig_len work_len sig s =
    condition3 sk msg salt mseed tries sig s.sized.sk-88 s.sized.salt-16 s.sized.mseed-16 s.satisfies s.bytes

-- ---- over the definitions of the calls

module _ (sk msg salt mseed : List ℕ) (tries : ℕ) (sig : List ℕ) (e : sign_all sk msg salt mseed tries 3484 65536 ≡ done sig) where
  given : Signed sk msg salt mseed tries 3484 65536 sig
  given = (sign-bytes sk msg salt mseed tries 3484 65536 sig).0 e

  holds : Signs sk msg salt mseed tries sig
  holds = signs sk msg salt mseed tries 3484 65536 sig given

  pub signature-accepted : check_all (public_of sk) msg sig 65536 ≡ done tt
  signature-accepted =
      (check-accepts (public_of sk) msg sig 65536).1
      (record { pk-60 = length-public_of sk given.sized.sk-88; sig-3484 = holds.size; work-65536 = refl }, given.fits, holds.accepted)

  pub leaves-same : (t k : ℕ) → t < 17 → k < 256 → k ≢ sig_hidden r3 (public_of sk) msg sig t
      → check_leaf r3 (public_of sk) msg sig t k ≡ sign_leaf r3 sk salt mseed t k
  leaves-same = holds.leaves

  pub more-tries : (u : ℕ) → tries ≤ u → u ≤ 1048576 → sign_all sk msg salt mseed u 3484 65536 ≡ done sig
  more-tries u h l =
      (sign-bytes sk msg salt mseed u 3484 65536 sig).1
      (record {
        sized = given.sized;
        fits = given.fits;
        within = record { some = omega (arith, given.within.some); limit = l };
        satisfies = given.satisfies;
        bytes = holds.more u h;
      })

-- ---- over the contracts of the calls

-- a sign call with number 0, and a check call on what it wrote, lent a workspace of its length
pub accepted : {sk msg salt mseed : List ℕ} {tries : ℕ} {sig work : List ℕ} {r : ℕ} {sig' work' : List ℕ} {lent : List ℕ} {r₂ : ℕ} {lent' : List ℕ}
    → SignsMessage sk msg salt mseed tries sig work r sig' work' → r ≡ 0 → ChecksSignature (public_of sk) msg sig' lent r₂ lent' → length lent ≡ 65536
    → r₂ ≡ 0
accepted {sk} {msg} {salt} {mseed} {tries} {sig} {work} {sig' = sig'} c h d l =
    let s = signature-bytes c h in
    let g = signs sk msg salt mseed tries (length sig) (length work) sig' s in
    (acceptance d).1 (record { pk-60 = length-public_of sk s.sized.sk-88; sig-3484 = g.size; work-65536 = l }, s.fits, g.accepted)

-- and with keys that a key generation call made
pub accepted-generated : {seed pk sk work : List ℕ} {r : ℕ} {pk' sk' work' : List ℕ}
    {msg salt mseed : List ℕ} {tries : ℕ} {sig work₂ : List ℕ} {r₂ : ℕ} {sig' work₂' : List ℕ} {lent : List ℕ} {r₃ : ℕ} {lent' : List ℕ}
    → MakesKeys seed pk sk work r pk' sk' work' → r ≡ 0
    → SignsMessage sk' msg salt mseed tries sig work₂ r₂ sig' work₂' → r₂ ≡ 0
    → ChecksSignature pk' msg sig' lent r₃ lent' → length lent ≡ 65536
    → r₃ ≡ 0
accepted-generated {seed} {sk' = sk'} {msg = msg} {sig' = sig'} {lent = lent} {r₃ = r₃} {lent' = lent'} k z c h d l =
    let b = keys-bytes k z in
    let same = b.0 ∙ sym (public-of-generated seed) ∙ sym (ap public_of b.1) in
    accepted c h (subst (λ (p : List ℕ). ChecksSignature p msg sig' lent r₃ lent') same d) l
