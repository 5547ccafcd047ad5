-- From the way a call ends to what it answers, and that it answers one thing only. Assumes nothing.
use mathlib.Core.Path.{◌≡◌, sym, ◌∙◌}
use mathlib.Core.List.{List}
use Prim.Native.Nat.{ℕ}
use lib.ListN.{length, replicate}
use Rattle.mqom.specs.Outcome.{Outcome, refused, failed, done, Ends, Gives}

module _ {A : Type 0} where
  pub ends-refused : {o : Outcome A} {n : ℕ} {w : List ℕ} → o ≡ refused n → Ends o n w w
  ends-refused e = record { number = rw e; workspace = rw e }

  pub ends-failed : {o : Outcome A} {n : ℕ} {w w' : List ℕ} → o ≡ failed n → w' ≡ replicate (length w) 0 → Ends o n w w'
  ends-failed e z = record { number = rw e; workspace = rw e z }

  pub ends-done : {o : Outcome A} {a : A} {w w' : List ℕ} → o ≡ done a → w' ≡ replicate (length w) 0 → Ends o 0 w w'
  ends-done e z = record { number = rw e; workspace = rw e z }

  pub keeps-refused : {f : A → List ℕ} {o : Outcome A} {n : ℕ} {out : List ℕ} → o ≡ refused n → Gives f o out out
  keeps-refused e = record { output = rw e }

  pub keeps-failed : {f : A → List ℕ} {o : Outcome A} {n : ℕ} {out : List ℕ} → o ≡ failed n → Gives f o out out
  keeps-failed e = record { output = rw e }

  pub gives-done : {f : A → List ℕ} {o : Outcome A} {a : A} {out out' : List ℕ} → o ≡ done a → out' ≡ f a → Gives f o out out'
  gives-done e z = record { output = rw e z }

  -- and back: what a call that is done gave
  pub gave-done : {f : A → List ℕ} {o : Outcome A} {a : A} {out out' : List ℕ} → o ≡ done a → Gives f o out out' → out' ≡ f a
  gave-done e g = rw e at g.output

  -- two answers that a contract allows are equal
  pub one_end : {o : Outcome A} {r₁ r₂ : ℕ} {w w₁ w₂ : List ℕ} → Ends o r₁ w w₁ → Ends o r₂ w w₂ → (r₁ ≡ r₂) × (w₁ ≡ w₂)
  one_end x y = (x.number ∙ sym y.number, x.workspace ∙ sym y.workspace)

  pub one-output : {f : A → List ℕ} {o : Outcome A} {out o₁ o₂ : List ℕ} → Gives f o out o₁ → Gives f o out o₂ → o₁ ≡ o₂
  one-output x y = x.output ∙ sym y.output
