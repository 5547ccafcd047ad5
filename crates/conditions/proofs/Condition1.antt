-- Condition 1: for each call and each input, number, outputs and workspace are determined, and they are as document 01's table says.
-- Assumes nothing.
use mathlib.Core.Path.{◌≡◌, refl, sym, subst}
use mathlib.Core.Logic.{◌≢◌, ◌⊎◌, inl, inr}
use mathlib.Core.List.{List}
use Prim.Native.Nat.{ℕ, ◌≤◌}
use native.Mathlib.Omega.{arith}
use lib.ListN.{length, replicate}
use Rattle.mqom.specs.Calls.{MakesKeys, SignsMessage, ChecksSignature}
use Rattle.mqom.proofs.Unique.{make-keys-unique, sign-unique, check-unique}
use Rattle.mqom.proofs.Exactly.{keygen-numbers, sign_numbers, check-numbers}
use Rattle.mqom.proofs.Table.{keygen-table, sign-table, check-table, work-untouched, work-cleared, output-kept}

-- ---- key generation

module _ {seed pk sk work : List ℕ} {r : ℕ} {pk' sk' work' : List ℕ} (c : MakesKeys seed pk sk work r pk' sk' work') where
  pub keys-determined : {r₂ : ℕ} {pk₂ sk₂ work₂ : List ℕ} → MakesKeys seed pk sk work r₂ pk₂ sk₂ work₂
      → (r ≡ r₂) × (pk' ≡ pk₂) × (sk' ≡ sk₂) × (work' ≡ work₂)
  keys-determined d = make-keys-unique c d

  pub keys-numbers : (r ≡ 0) ⊎ (r ≡ 1)
  keys-numbers =
      subst (λ (n : ℕ). (n ≡ 0) ⊎ (n ≡ 1)) (sym c.ends.number)
      (keygen-numbers seed (length pk) (length sk) (length work) (λ n. (n ≡ 0) ⊎ (n ≡ 1)) (inl refl) (inr refl))

  -- number 1: nothing is touched; 0: the workspace is all zero
  pub keys-refused : r ≡ 1 → (pk' ≡ pk) × (sk' ≡ sk) × (work' ≡ work)
  keys-refused h =
      let t = keygen-table seed (length pk) (length sk) (length work) in
      (output-kept t c.ends c.public (λ e. omega arith), output-kept t c.ends c.secret (λ e. omega arith), work-untouched t c.ends (omega arith) (omega arith))

  pub keys-cleared : r ≡ 0 → work' ≡ replicate (length work) 0
  keys-cleared h = work-cleared (keygen-table seed (length pk) (length sk) (length work)) c.ends (inl h)

-- ---- signing

module _ {sk msg salt mseed : List ℕ} {tries : ℕ} {sig work : List ℕ} {r : ℕ} {sig' work' : List ℕ}
    (c : SignsMessage sk msg salt mseed tries sig work r sig' work') where
  pub sign-determined : {r₂ : ℕ} {sig₂ work₂ : List ℕ} → SignsMessage sk msg salt mseed tries sig work r₂ sig₂ work₂
      → (r ≡ r₂) × (sig' ≡ sig₂) × (work' ≡ work₂)
  sign-determined d = sign-unique c d

  pub sign-numbered : (r ≡ 0) ⊎ (r ≡ 1) ⊎ (r ≡ 2) ⊎ (r ≡ 3) ⊎ (r ≡ 4) ⊎ (r ≡ 5)
  sign-numbered =
      subst (λ (n : ℕ). (n ≡ 0) ⊎ (n ≡ 1) ⊎ (n ≡ 2) ⊎ (n ≡ 3) ⊎ (n ≡ 4) ⊎ (n ≡ 5)) (sym c.ends.number)
      (sign_numbers sk msg salt mseed tries (length sig) (length work)
      (λ n. (n ≡ 0) ⊎ (n ≡ 1) ⊎ (n ≡ 2) ⊎ (n ≡ 3) ⊎ (n ≡ 4) ⊎ (n ≡ 5))
      (inl refl) (inr (inl refl)) (inr (inr (inl refl))) (inr (inr (inr (inl refl)))) (inr (inr (inr (inr (inl refl))))) (inr (inr (inr (inr (inr refl))))))

  -- but with 0 the signature's place is untouched; with 1, 2 and 3 the workspace is too; else it is all zero
  pub sign_kept : r ≢ 0 → sig' ≡ sig
  sign_kept h = output-kept (sign-table sk msg salt mseed tries (length sig) (length work)) c.ends c.signature h

  pub sign-untouched : 1 ≤ r → r ≤ 3 → work' ≡ work
  sign-untouched l u = work-untouched (sign-table sk msg salt mseed tries (length sig) (length work)) c.ends l u

  pub sign-cleared : (r ≡ 0) ⊎ (4 ≤ r) → work' ≡ replicate (length work) 0
  sign-cleared h = work-cleared (sign-table sk msg salt mseed tries (length sig) (length work)) c.ends h

-- ---- checking

module _ {pk msg sig work : List ℕ} {r : ℕ} {work' : List ℕ} (c : ChecksSignature pk msg sig work r work') where
  pub check-determined : {r₂ : ℕ} {work₂ : List ℕ} → ChecksSignature pk msg sig work r₂ work₂ → (r ≡ r₂) × (work' ≡ work₂)
  check-determined d = check-unique c d

  pub check-numbered : (r ≡ 0) ⊎ (r ≡ 1) ⊎ (r ≡ 2) ⊎ (r ≡ 6)
  check-numbered =
      subst (λ (n : ℕ). (n ≡ 0) ⊎ (n ≡ 1) ⊎ (n ≡ 2) ⊎ (n ≡ 6)) (sym c.ends.number)
      (check-numbers pk msg sig (length work) (λ n. (n ≡ 0) ⊎ (n ≡ 1) ⊎ (n ≡ 2) ⊎ (n ≡ 6))
      (inl refl) (inr (inl refl)) (inr (inr (inl refl))) (inr (inr (inr refl))))

  pub check-untouched : 1 ≤ r → r ≤ 3 → work' ≡ work
  check-untouched l u = work-untouched (check-table pk msg sig (length work)) c.ends l u

  pub check-cleared : (r ≡ 0) ⊎ (4 ≤ r) → work' ≡ replicate (length work) 0
  check-cleared h = work-cleared (check-table pk msg sig (length work)) c.ends h
