-- For each call and each input the contract determines number, outputs and workspace. Assumes nothing.
use mathlib.Core.Path.{◌≡◌, refl, sym, ap, ◌∙◌}
use mathlib.Core.List.{List}
use Prim.Native.Nat.{ℕ}
use Rattle.std.specs.Prelude.{Result, Ok, Err, cond, eqb}
use Rattle.mqom.specs.declared.Refusal.{Refusal}
use Rattle.mqom.specs.declared.Refusal.TheVariants.{Length, Message, Tries, Unsatisfied, Spent, Rejected}
use Rattle.mqom.specs.Answer.{number_of_answer}
use Rattle.mqom.specs.Calls.{MakesKeys, SignsMessage, ChecksSignature}
use Rattle.mqom.proofs.Outcomes.{one_end, one-output}

pub make-keys-unique : {seed pk sk work : List ℕ} {r₁ r₂ : ℕ} {pk₁ pk₂ sk₁ sk₂ work₁ work₂ : List ℕ}
    → MakesKeys seed pk sk work r₁ pk₁ sk₁ work₁ → MakesKeys seed pk sk work r₂ pk₂ sk₂ work₂
    → (r₁ ≡ r₂) × (pk₁ ≡ pk₂) × (sk₁ ≡ sk₂) × (work₁ ≡ work₂)
make-keys-unique x y =
    ((one_end x.ends y.ends).0, one-output x.public y.public, one-output x.secret y.secret, (one_end x.ends y.ends).1)

pub sign-unique : {sk msg salt mseed : List ℕ} {tries : ℕ} {sig work : List ℕ} {r₁ r₂ : ℕ} {sig₁ sig₂ work₁ work₂ : List ℕ}
    → SignsMessage sk msg salt mseed tries sig work r₁ sig₁ work₁ → SignsMessage sk msg salt mseed tries sig work r₂ sig₂ work₂
    → (r₁ ≡ r₂) × (sig₁ ≡ sig₂) × (work₁ ≡ work₂)
sign-unique x y = ((one_end x.ends y.ends).0, one-output x.signature y.signature, (one_end x.ends y.ends).1)

pub check-unique : {pk msg sig work : List ℕ} {r₁ r₂ : ℕ} {work₁ work₂ : List ℕ}
    → ChecksSignature pk msg sig work r₁ work₁ → ChecksSignature pk msg sig work r₂ work₂ → (r₁ ≡ r₂) × (work₁ ≡ work₂)
check-unique x y = one_end x.ends y.ends

-- a field that is handed out is given by an equation
pub field-unique : {f r₁ r₂ : List ℕ} → r₁ ≡ f → r₂ ≡ f → r₁ ≡ r₂
field-unique p q = p ∙ sym q

-- and the number determines the answer

abbrev answer_of : ℕ → Result (Unit {0}) Refusal
answer_of n =
    cond (eqb n 0) (Ok tt)
    (cond (eqb n 1) (Err Length)
    (cond (eqb n 2) (Err Message)
    (cond (eqb n 3) (Err Tries) (cond (eqb n 4) (Err Unsatisfied) (cond (eqb n 5) (Err Spent) (Err Rejected))))))

answer-number : (x : Result (Unit {0}) Refusal) → answer_of (number_of_answer x) ≡ x
answer-number (Ok done) = refl
answer-number (Err Length) = refl
answer-number (Err Message) = refl
answer-number (Err Tries) = refl
answer-number (Err Unsatisfied) = refl
answer-number (Err Spent) = refl
answer-number (Err Rejected) = refl

pub number-tells : (x y : Result (Unit {0}) Refusal) → number_of_answer x ≡ number_of_answer y → x ≡ y
number-tells x y e = sym (answer-number x) ∙ ap answer_of e ∙ answer-number y
