-- What each test of the calls tells, in document 01's words. Assumes nothing.
use mathlib.Core.Path.{◌≡◌, refl}
use mathlib.Core.Logic.{◌↔◌, inl, inr, ⊎_elim}
use mathlib.Core.List.{List}
use mathlib.Core.Option.{Option, none, some}
use Prim.Native.Nat.{ℕ, zero, suc, ◌<◌, ◌≤◌}
use native.Mathlib.Omega.{arith}
use lib.ListN.{length}
use Rattle.std.specs.Bool.{Decides}
use Rattle.std.proofs.lemmas.Bool.Decides.{Decides-eqb, Decides-and}
use Rattle.mqom.specs.Outcome.{number_of}
use Rattle.mqom.specs.Calls.{keygen_lengths, sign_lengths, check_lengths, message_fits, tries_allowed, signed}
use Rattle.mqom.specs.Words.{KeygenSized, SignSized, CheckSized, Fits, TooLong, TriesWithin, TriesOutside}
use Rattle.mqom.proofs.Nested.{Decides-leb}

-- ---- lengths

pub tells-keygen : (seed : List ℕ) (pk_len sk_len work_len : ℕ) → Decides (keygen_lengths seed pk_len sk_len work_len) (KeygenSized seed pk_len sk_len work_len)
unfolding keygen_lengths
tells-keygen seed pk_len sk_len work_len =
    let t = Decides-and _ _ (Decides-and _ _ (Decides-and _ _ (Decides-eqb (length seed) 32) (Decides-eqb pk_len 60)) (Decides-eqb sk_len 88)) (Decides-eqb work_len 65536) in (
      λ e. let h = t.0 e in record { seed-32 = h.0.0.0; pk-60 = h.0.0.1; sk-88 = h.0.1; work-65536 = h.1 },
      λ h. t.1 (((h.seed-32, h.pk-60), h.sk-88), h.work-65536),
    )

pub tells-sign : (sk salt mseed : List ℕ) (sig_len work_len : ℕ) → Decides (sign_lengths sk salt mseed sig_len work_len) (SignSized sk salt mseed sig_len work_len)
unfolding sign_lengths
tells-sign sk salt mseed sig_len work_len =
    let t =
    Decides-and _ _
    (Decides-and _ _ (Decides-and _ _ (Decides-and _ _ (Decides-eqb (length sk) 88) (Decides-eqb (length salt) 16)) (Decides-eqb (length mseed) 16)) (Decides-eqb sig_len 3484))
    (Decides-eqb work_len 65536) in (
      λ e. let h = t.0 e in record { sk-88 = h.0.0.0.0; salt-16 = h.0.0.0.1; mseed-16 = h.0.0.1; sig-3484 = h.0.1; work-65536 = h.1 },
      λ h. t.1 ((((h.sk-88, h.salt-16), h.mseed-16), h.sig-3484), h.work-65536),
    )

pub tells-check : (pk sig : List ℕ) (work_len : ℕ) → Decides (check_lengths pk sig work_len) (CheckSized pk sig work_len)
unfolding check_lengths
tells-check pk sig work_len =
    let t = Decides-and _ _ (Decides-and _ _ (Decides-eqb (length pk) 60) (Decides-eqb (length sig) 3484)) (Decides-eqb work_len 65536) in (
      λ e. let h = t.0 e in record { pk-60 = h.0.0; sig-3484 = h.0.1; work-65536 = h.1 },
      λ h. t.1 ((h.pk-60, h.sig-3484), h.work-65536),
    )

-- ---- message and tries

pub tells-message : (msg : List ℕ) → Decides (message_fits msg) (Fits msg)
unfolding message_fits
tells-message msg = Decides-leb (length msg) 65536

pub too_long : (msg : List ℕ) → ¬ (Fits msg) ↔ TooLong msg
too_long msg = (λ h. omega arith, λ h k. omega arith)

pub tells-tries : (tries : ℕ) → Decides (tries_allowed tries) (TriesWithin tries)
unfolding tries_allowed
tells-tries tries =
    let t = Decides-and _ _ (Decides-leb 1 tries) (Decides-leb tries 1048576) in
    (λ e. let h = t.0 e in record { some = h.0; limit = h.1 }, λ h. t.1 (h.some, h.limit))

pub tries-outside : (tries : ℕ) → ¬ (TriesWithin tries) ↔ TriesOutside tries
tries-outside zero = (λ h. inl refl, λ h k. omega (arith, k.some))
tries-outside (suc n) = (
  λ h. let k : ¬ (suc n ≤ 1048576) = λ l. h (record { some = omega arith; limit = l }) in inr (omega arith),
  λ h k. ⊎_elim (λ (e : suc n ≡ 0). omega arith) (λ (l : 1048576 < suc n). omega arith) h,
)

-- ---- the search

pub signed-5 : (o : Option (List ℕ)) → (number_of (signed o) ≡ 5) ↔ (o ≡ none)
unfolding signed
signed-5 none = (λ h. refl, λ h. refl)
signed-5 (some b) = (λ h. absurd (omega arith), λ h. let z : ◌≡◌ {A = ℕ} 0 1 = cc in absurd (omega arith))

pub signed-0 : (o : Option (List ℕ)) → (number_of (signed o) ≡ 0) ↔ ((b : List ℕ) × (o ≡ some b))
unfolding signed
signed-0 none = (λ h. absurd (omega arith), λ h. let e : none ≡ some h.0 = h.1 in let z : ◌≡◌ {A = ℕ} 5 0 = cc in z)
signed-0 (some b) = (λ h. (b, refl), λ h. refl)

pub signed-any : (P : ℕ → Type 0) → P 5 → P 0 → (o : Option (List ℕ)) → P (number_of (signed o))
unfolding signed
signed-any P p5 p0 none = p5
signed-any P p5 p0 (some b) = p0
