-- Document 01's table read by its numbers: what a number says of output and workspace. Assumes nothing.
use mathlib.Core.Path.{◌≡◌, refl, sym, ◌∙◌}
use mathlib.Core.Logic.{◌≢◌, ◌⊎◌, ⊎_elim}
use mathlib.Core.List.{List}
use mathlib.Core.Option.{Option, none, some}
use Prim.Native.Nat.{ℕ, ◌≤◌}
use native.Mathlib.Omega.{arith}
use lib.ListN.{length, replicate}
use Rattle.paper.specs.Keys.{key_gen, satisfied}
use Rattle.paper.specs.Alpha.{r3}
use Rattle.paper.specs.Scheme.{sign_of, verif_of}
use Rattle.mqom.specs.Outcome.{Outcome, refused, failed, done, number_of, output_of, work_of, unless, Ends, Gives, InTable}
use Rattle.mqom.specs.Calls.{keygen_lengths, sign_lengths, check_lengths, message_fits, tries_allowed, signed, keygen_all, sign_all, check_all}
use Rattle.mqom.proofs.Nested.{both}

module _ {A : Type 0} where
  pub number-0 : (o : Outcome A) → InTable o → number_of o ≡ 0 → (a : A) × (o ≡ done a)
  unfolding InTable
  number-0 (refused n) t h = absurd (omega (arith, t.0))
  number-0 (failed n) t h = absurd (omega (arith, t.0))
  number-0 (done a) t h = (a, refl)

  -- 1, 2, 3: the workspace is untouched
  untouched : (o : Outcome A) → InTable o → 1 ≤ number_of o → number_of o ≤ 3 → (w : List ℕ) → work_of o w ≡ w
  unfolding InTable
  untouched (refused n) t l u w = refl
  untouched (failed n) t l u w = absurd (omega (arith, t.0))
  untouched (done a) t l u w = absurd (omega arith)

  -- 0, 4, 5, 6: it is all zero
  cleared : (o : Outcome A) → InTable o → (number_of o ≡ 0) ⊎ (4 ≤ number_of o) → (w : List ℕ) → work_of o w ≡ replicate (length w) 0
  unfolding InTable
  cleared (refused n) t h w = absurd (⊎_elim (λ (e : n ≡ 0). omega (arith, t.0)) (λ (l : 4 ≤ n). omega (arith, t.1)) h)
  cleared (failed n) t h w = refl
  cleared (done a) t h w = refl

  -- but with 0 the output is untouched
  kept : (f : A → List ℕ) (o : Outcome A) → number_of o ≢ 0 → (out : List ℕ) → output_of f o out ≡ out
  kept f (refused n) h out = refl
  kept f (failed n) h out = refl
  kept f (done a) h out = absurd (h refl)

  module _ {o : Outcome A} {r : ℕ} {w w' : List ℕ} (t : InTable o) (e : Ends o r w w') where
    pub work-untouched : 1 ≤ r → r ≤ 3 → w' ≡ w
    work-untouched l u = e.workspace ∙ untouched o t (omega (arith, e.number)) (omega (arith, e.number)) w

    pub work-cleared : (r ≡ 0) ⊎ (4 ≤ r) → w' ≡ replicate (length w) 0
    work-cleared h = e.workspace ∙ cleared o t (rw e.number at h) w

    pub output-kept : {f : A → List ℕ} {out out' : List ℕ} → Gives f o out out' → r ≢ 0 → out' ≡ out
    output-kept {f} {out} g h = g.output ∙ kept f o (λ z. h (e.number ∙ z)) out

    pub outcome-done : r ≡ 0 → (a : A) × (o ≡ done a)
    outcome-done h = number-0 o t (sym e.number ∙ h)

-- ---- each call ends as the table says

pub keygen-table : (seed : List ℕ) (pk_len sk_len work_len : ℕ) → InTable (keygen_all seed pk_len sk_len work_len)
unfolding keygen_all InTable
keygen-table seed pk_len sk_len work_len = both InTable (keygen_lengths seed pk_len sk_len work_len) (refused 1) (done (key_gen seed)) (omega arith, omega arith) tt

signed-table : (o : Option (List ℕ)) → InTable (signed o)
unfolding signed InTable
signed-table none = (omega arith, omega arith)
signed-table (some b) = tt

pub sign-table : (sk msg salt mseed : List ℕ) (tries sig_len work_len : ℕ) → InTable (sign_all sk msg salt mseed tries sig_len work_len)
unfolding sign_all InTable
sign-table sk msg salt mseed tries sig_len work_len =
    let found = signed (sign_of r3 sk msg salt mseed tries) in
    let after3 = unless (satisfied sk) (failed 4) found in
    let after2 = unless (tries_allowed tries) (refused 3) after3 in
    let after1 = unless (message_fits msg) (refused 2) after2 in
    both InTable (sign_lengths sk salt mseed sig_len work_len) (refused 1) after1 (omega arith, omega arith)
    (both InTable (message_fits msg) (refused 2) after2 (omega arith, omega arith)
    (both InTable (tries_allowed tries) (refused 3) after3 (omega arith, omega arith)
    (both InTable (satisfied sk) (failed 4) found (omega arith, omega arith) (signed-table (sign_of r3 sk msg salt mseed tries)))))

pub check-table : (pk msg sig : List ℕ) (work_len : ℕ) → InTable (check_all pk msg sig work_len)
unfolding check_all InTable
check-table pk msg sig work_len =
    let judged : Outcome (Unit {0}) = unless (verif_of r3 pk msg sig) (failed 6) (done tt) in
    let read : Outcome (Unit {0}) = unless (message_fits msg) (refused 2) judged in
    both InTable (check_lengths pk sig work_len) (refused 1) read (omega arith, omega arith)
    (both InTable (message_fits msg) (refused 2) judged (omega arith, omega arith)
    (both InTable (verif_of r3 pk msg sig) (failed 6) (done tt) (omega arith, omega arith) tt))
