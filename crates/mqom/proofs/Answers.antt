-- What a call answers, of how it ends: its contract from the outcome and from what lies in its outputs and workspace. `between` is the
-- workspace as the work left it, before it was cleared. Assumes nothing.
use mathlib.Core.Path.{◌≡◌, refl, sym, ap, ◌∙◌, subst}
use mathlib.Core.Bool.{Bool, true, false}
use mathlib.Core.List.{List}
use mathlib.Core.Option.{Option, none, some}
use Prim.Native.Nat.{ℕ}
use lib.ListN.{length, replicate}
use Rattle.paper.specs.Keys.{key_gen, satisfied}
use Rattle.paper.specs.Alpha.{r3}
use Rattle.paper.specs.Scheme.{sign_of}
use Rattle.std.specs.Prelude.{Result, Err}
use Rattle.mqom.specs.declared.Refusal.{Refusal}
use Rattle.mqom.specs.declared.Refusal.TheVariants.{Length}
use Rattle.mqom.specs.Answer.{number_of_answer}
use Rattle.signer.specs.Written.{Signed}
use Rattle.mqom.specs.Outcome.{refused, failed, done}
use Rattle.mqom.specs.Calls.{keygen_all, sign_all, check_all, MakesKeys, SignsMessage, ChecksSignature}
use Rattle.mqom.specs.Words.{KeygenSized, SignSized, Fits, TriesWithin}
use Rattle.mqom.proofs.Outcomes.{ends-refused, ends-failed, ends-done, keeps-refused, keeps-failed, gives-done}
use Rattle.mqom.proofs.Branches.{keygen-done, sign-unsatisfied, sign-spent, sign-done}

abbrev Answer : Type 0
Answer = Result (Unit {0}) Refusal

zeros : (work between work' : List ℕ) → work' ≡ replicate (length between) 0 → length between ≡ length work → work' ≡ replicate (length work) 0
zeros work between work' z h = z ∙ ap (λ (n : ℕ). replicate n 0) h

module _ (seed pk sk work : List ℕ) where
  -- where a length is wrong nothing is touched
  pub keys-refused : {r : Answer} {pk' sk' work' : List ℕ} → keygen_all seed (length pk) (length sk) (length work) ≡ refused 1
      → r ≡ Err Length → pk' ≡ pk → sk' ≡ sk → work' ≡ work → MakesKeys seed pk sk work (number_of_answer r) pk' sk' work'
  keys-refused e r p q w =
      rw (r, p, q, w) (record { ends = ends-refused e; public = keeps-refused e; secret = keeps-refused e })

  pub keys-made : {pk' sk' work' : List ℕ} (between : List ℕ) → KeygenSized seed (length pk) (length sk) (length work)
      → pk' ≡ (key_gen seed).pk → sk' ≡ (key_gen seed).sk → work' ≡ replicate (length between) 0 → length between ≡ length work
      → MakesKeys seed pk sk work 0 pk' sk' work'
  keys-made between s p q z h =
      let e = keygen-done seed (length pk) (length sk) (length work) s in
      record { ends = ends-done e (zeros work between _ z h); public = gives-done e p; secret = gives-done e q }

module _ (sk msg salt mseed : List ℕ) (tries : ℕ) (sig work : List ℕ) where
  pub signs-refused : {n : ℕ} {sig' work' : List ℕ} → sign_all sk msg salt mseed tries (length sig) (length work) ≡ refused n
      → sig' ≡ sig → work' ≡ work → SignsMessage sk msg salt mseed tries sig work n sig' work'
  signs-refused e p w = rw (p, w) (record { ends = ends-refused e; signature = keeps-refused e })

  -- where a length is wrong
  pub signs-length : {r : Answer} {sig' work' : List ℕ} → sign_all sk msg salt mseed tries (length sig) (length work) ≡ refused 1
      → r ≡ Err Length → sig' ≡ sig → work' ≡ work → SignsMessage sk msg salt mseed tries sig work (number_of_answer r) sig' work'
  signs-length e r p w = rw r (signs-refused e p w)

  pub signs-failed : {n : ℕ} {sig' work' : List ℕ} (between : List ℕ) → sign_all sk msg salt mseed tries (length sig) (length work) ≡ failed n
      → sig' ≡ sig → work' ≡ replicate (length between) 0 → length between ≡ length work
      → SignsMessage sk msg salt mseed tries sig work n sig' work'
  signs-failed between e p z h =
      record { ends = ends-failed e (zeros work between _ z h); signature = record { output = p ∙ (keeps-failed {f = λ s. s} e).output } }

  pub signs-made : {sig' work' : List ℕ} (between : List ℕ) → sign_all sk msg salt mseed tries (length sig) (length work) ≡ done sig'
      → work' ≡ replicate (length between) 0 → length between ≡ length work
      → SignsMessage sk msg salt mseed tries sig work 0 sig' work'
  signs-made between e z h = record { ends = ends-done e (zeros work between _ z h); signature = gives-done e refl }

  -- what the work answers, by cases: whether the solution satisfies the equations, and whether a try passes
  pub signs-worked : {r n : ℕ} {sk₁ salt₁ mseed₁ sig₁ sig' work' : List ℕ} (between : List ℕ) → SignSized sk salt mseed (length sig) (length work)
      → Fits msg → TriesWithin tries → sk₁ ≡ sk → salt₁ ≡ salt → mseed₁ ≡ mseed → sig₁ ≡ sig → Signed sk₁ msg salt₁ mseed₁ tries sig₁ r sig' → r ≡ n
      → work' ≡ replicate (length between) 0 → length between ≡ length work
      → SignsMessage sk msg salt mseed tries sig work n sig' work'
  signs-worked {n = n} {sig' = sig'} {work' = work'} between s f t a b c d signed e₀ z h = go (satisfied sk) refl (sign_of r3 sk msg salt mseed tries) refl
    where
      ours : Signed sk msg salt mseed tries sig n sig'
      ours = rw (a, b, c, d, e₀) at signed

      numbered : {m : ℕ} → n ≡ m → SignsMessage sk msg salt mseed tries sig work m sig' work'
          → SignsMessage sk msg salt mseed tries sig work n sig' work'
      numbered e s = subst (λ (m : ℕ). SignsMessage sk msg salt mseed tries sig work m sig' work') (sym e) s

      go : (b : Bool) → satisfied sk ≡ b → (o : Option (List ℕ)) → sign_of r3 sk msg salt mseed tries ≡ o
          → SignsMessage sk msg salt mseed tries sig work n sig' work'
      go false e o q =
          numbered (ours.unsolved e).0 (signs-failed between (sign-unsatisfied sk msg salt mseed tries (length sig) (length work) s f t e) (ours.unsolved e).1 z h)
      go true e none q =
          numbered (ours.spent e q).0 (signs-failed between (sign-spent sk msg salt mseed tries (length sig) (length work) s f t e q) (ours.spent e q).1 z h)
      go true e (some b) q =
          numbered (ours.done e b q).0
          (signs-made between (sign-done sk msg salt mseed tries (length sig) (length work) s f t b e q ∙ ap done (sym (ours.done e b q).1)) z h)

module _ (pk msg sig work : List ℕ) where
  pub checks-refused : {n : ℕ} {work' : List ℕ} → check_all pk msg sig (length work) ≡ refused n → work' ≡ work
      → ChecksSignature pk msg sig work n work'
  checks-refused e w = rw w (record { ends = ends-refused e })

  -- where a length is wrong
  pub checks-length : {r : Answer} {work' : List ℕ} → check_all pk msg sig (length work) ≡ refused 1 → r ≡ Err Length → work' ≡ work
      → ChecksSignature pk msg sig work (number_of_answer r) work'
  checks-length e r w = rw r (checks-refused e w)

  pub checks-failed : {n : ℕ} {work' : List ℕ} (between : List ℕ) → check_all pk msg sig (length work) ≡ failed n
      → work' ≡ replicate (length between) 0 → length between ≡ length work → ChecksSignature pk msg sig work n work'
  checks-failed between e z h = record { ends = ends-failed e (zeros work between _ z h) }

  pub checks-accepted : {work' : List ℕ} (between : List ℕ) → check_all pk msg sig (length work) ≡ done tt
      → work' ≡ replicate (length between) 0 → length between ≡ length work → ChecksSignature pk msg sig work 0 work'
  checks-accepted between e z h = record { ends = ends-done e (zeros work between _ z h) }
