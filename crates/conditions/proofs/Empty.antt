-- The four empty programs: what each would have to have proved of its call is false. Assumes nothing.
use mathlib.Core.Path.{◌≡◌, refl, sym, ◌∙◌}
use mathlib.Core.Logic.{inl}
use mathlib.Core.List.{List, []}
use Prim.Native.Nat.{ℕ, ◌<◌}
use native.Mathlib.Omega.{arith}
use lib.ListN.{length, replicate, length-replicate}
use Rattle.paper.specs.Keys.{solution_of}
use Rattle.paper.specs.Commit.{path_at, lscom, sent_at}
use Rattle.paper.specs.Alpha.{r3}
use Rattle.paper.specs.Challenge.{hidden_in}
use Rattle.paper.specs.Scheme.{sign_challenge}
use Rattle.mqom.specs.Calls.{MakesKeys, SignsMessage, ChecksSignature}
use Rattle.mqom.specs.Words.{KeygenSized, SignSized, CheckSized}
use Rattle.mqom.specs.Fields.{salt_in, path_in, hidden_commitment_in, correction_in}
use Rattle.mqom.proofs.Exactly.{keygen-exactly-0, keygen-exactly-1, sign-exactly-1, sign-exactly-3, check-exactly-1, check-exactly-2}
use Rattle.mqom.proofs.Search.{SignedWith}
use Rattle.mqom.proofs.Made.{FieldsOf}
use Rattle.conditions.proofs.Condition2.{signature-fields}

-- ---- one number n for all inputs, whatever becomes of the lent buffers: refusing everything, doing nothing with number 0, one fixed
-- signature, a check that always accepts. Empty inputs give 1, and inputs of the right lengths can give another number.

-- a shut name: a list at a large numeral would be counted out
unfoldable zeros : ℕ → List ℕ
zeros n = replicate n 0

length-zeros : (n : ℕ) → length (zeros n) ≡ n
unfolding zeros
length-zeros n = length-replicate n 0

pub no-make-keys-of-one-number : (n : ℕ) (p s w : List ℕ → List ℕ) → ¬ ((seed pk sk work : List ℕ) → MakesKeys seed pk sk work n (p pk) (s sk) (w work))
no-make-keys-of-one-number n p s w c =
    let one = (c [] [] [] []).ends.number ∙ (keygen-exactly-1 [] 0 0 0).1 (λ h. omega arith) in
    let zero = (c (zeros 32) (zeros 60) (zeros 88) (zeros 65536)).ends.number ∙ (keygen-exactly-0 (zeros 32) _ _ _).1 sized in
    omega arith
  where
    sized : KeygenSized (zeros 32) (length (zeros 60)) (length (zeros 88)) (length (zeros 65536))
    sized = record { seed-32 = length-zeros 32; pk-60 = length-zeros 60; sk-88 = length-zeros 88; work-65536 = length-zeros 65536 }

pub no-sign-of-one-number : (n : ℕ) (s w : List ℕ → List ℕ)
    → ¬ ((sk msg salt mseed : List ℕ) (tries : ℕ) (sig work : List ℕ) → SignsMessage sk msg salt mseed tries sig work n (s sig) (w work))
no-sign-of-one-number n s w c =
    let one = (c [] [] [] [] 0 [] []).ends.number ∙ (sign-exactly-1 [] [] [] [] 0 0 0).1 (λ h. omega arith) in
    let three = (c (zeros 88) [] (zeros 16) (zeros 16) 0 (zeros 3484) (zeros 65536)).ends.number ∙ (sign-exactly-3 _ [] _ _ 0 _ _).1 (sized, omega arith, inl refl) in
    omega arith
  where
    sized : SignSized (zeros 88) (zeros 16) (zeros 16) (length (zeros 3484)) (length (zeros 65536))
    sized = record { sk-88 = length-zeros 88; salt-16 = length-zeros 16; mseed-16 = length-zeros 16; sig-3484 = length-zeros 3484; work-65536 = length-zeros 65536 }

pub no-check-of-one-number : (n : ℕ) (w : List ℕ → List ℕ) → ¬ ((pk msg sig work : List ℕ) → ChecksSignature pk msg sig work n (w work))
no-check-of-one-number n w c =
    let one = (c [] [] [] []).ends.number ∙ (check-exactly-1 [] [] [] 0).1 (λ h. omega arith) in
    let two = (c (zeros 60) (zeros 65537) (zeros 3484) (zeros 65536)).ends.number ∙ (check-exactly-2 _ _ _ _).1 (sized, omega (arith, length-zeros 65537)) in
    omega arith
  where
    sized : CheckSized (zeros 60) (zeros 3484) (length (zeros 65536))
    sized = record { pk-60 = length-zeros 60; sig-3484 = length-zeros 3484; work-65536 = length-zeros 65536 }

-- ---- number 0: the signature's fields are the definition's

-- the hidden leaf of each tree, with nonce n
abbrev hidden : List ℕ → List ℕ → List ℕ → List ℕ → ℕ → ℕ → ℕ
hidden sk msg salt mseed n = hidden_in (sign_challenge r3 sk msg salt mseed n)

module _ {sk msg salt mseed : List ℕ} {tries : ℕ} {sig work sig' work' : List ℕ} (c : SignsMessage sk msg salt mseed tries sig work 0 sig' work') where
  made : (n : ℕ) × SignedWith sk msg salt mseed tries sig' n × FieldsOf sk msg salt mseed n sig'
  made = signature-fields c refl

  -- repetition e is the first one again: only where the definition's own two are equal
  module _ (e : ℕ) (h : e < 17) where
    pub no-copied-repetition : correction_in e sig' ≡ correction_in 0 sig'
        → sent_at 28 mseed salt (solution_of sk) e ≡ sent_at 28 mseed salt (solution_of sk) 0
    no-copied-repetition q = sym (made.2.correction-is e h) ∙ q ∙ made.2.correction-is 0 (omega arith)

    pub no-copied-path : path_in e sig' ≡ path_in 0 sig'
        → (n : ℕ) × SignedWith sk msg salt mseed tries sig' n
        × (path_at mseed salt (solution_of sk) e (hidden sk msg salt mseed n e) ≡ path_at mseed salt (solution_of sk) 0 (hidden sk msg salt mseed n 0))
    no-copied-path q = (made.0, made.1, sym (made.2.path-is e h) ∙ q ∙ made.2.path-is 0 (omega arith))

    pub no-copied-hidden-commitment : hidden_commitment_in e sig' ≡ hidden_commitment_in 0 sig'
        → (n : ℕ) × SignedWith sk msg salt mseed tries sig' n
        × (lscom mseed salt (solution_of sk) e (hidden sk msg salt mseed n e) ≡ lscom mseed salt (solution_of sk) 0 (hidden sk msg salt mseed n 0))
    no-copied-hidden-commitment q = (made.0, made.1, sym (made.2.hidden-is e h) ∙ q ∙ made.2.hidden-is 0 (omega arith))

-- nothing written with number 0, also where the lengths are looked at
pub no-signing-without-writing : {sk msg salt mseed : List ℕ} {tries : ℕ} {sig work work' : List ℕ}
    → ¬ (salt_in sig ≡ salt) → ¬ (SignsMessage sk msg salt mseed tries sig work 0 sig work')
no-signing-without-writing h c = h (made c).2.salt-is

-- one fixed signature f for two salts
pub no-fixed-signature : {sk₁ msg₁ salt₁ mseed₁ : List ℕ} {tries₁ : ℕ} {sig₁ work₁ work₁' : List ℕ}
    {sk₂ msg₂ salt₂ mseed₂ : List ℕ} {tries₂ : ℕ} {sig₂ work₂ work₂' : List ℕ} {f : List ℕ}
    → ¬ (salt₁ ≡ salt₂) → SignsMessage sk₁ msg₁ salt₁ mseed₁ tries₁ sig₁ work₁ 0 f work₁'
    → ¬ (SignsMessage sk₂ msg₂ salt₂ mseed₂ tries₂ sig₂ work₂ 0 f work₂')
no-fixed-signature h c d = h (sym (made c).2.salt-is ∙ (made d).2.salt-is)
