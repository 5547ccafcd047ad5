-- The answers of `read_cell` and `write_cell`, by the tests that lead to them. Assumes nothing.
use mathlib.Core.Path.{◌≡◌, refl, sym, ap, ◌∙◌}
use mathlib.Core.Bool.{Bool, true, false, cond, and-false}
use mathlib.Core.List.{List}
use Prim.Native.Nat.{ℕ}
use borrow.Author.Tests.{eq-eqb, ne_eqb, eqb-true, eqb-false}
use lib.Dec.{eqb}
use lib.ListN.{length}
use Rattle.std.specs.Prelude.{Result, Ok, Err}
use Rattle.octets.specs.Lists.{alike}
use Rattle.cells.specs.Answer.{number_of}
use Rattle.cells.specs.declared.Refusal.{Refusal}
use Rattle.cells.specs.declared.Refusal.TheVariants.{Length, CellLength, Character}
use Rattle.cells.specs.Cell.{key_length, cell_length, all_hex, read_bytes, write_text, read_number, read_output, write_number, write_output, CellRead, CellWritten}

pub read-1 : {cell out : List ℕ} → (length out ≡ key_length → ⊥) → CellRead cell out 1 out
unfolding read_number read_output
read-1 h = record { number = simp (ne_eqb _ _ h); output = simp (ne_eqb _ _ h) }

pub read-7 : {cell out : List ℕ} → length out ≡ key_length → (length cell ≡ cell_length → ⊥) → CellRead cell out 7 out
unfolding read_number read_output
read-7 h k = record { number = simp (eq-eqb _ _ h, ne_eqb _ _ k); output = simp (eq-eqb _ _ h, ne_eqb _ _ k) }

pub read-8 : {cell out : List ℕ} → length out ≡ key_length → length cell ≡ cell_length → all_hex cell ≡ false → CellRead cell out 8 out
unfolding read_number read_output
read-8 h k e = record { number = simp (eq-eqb _ _ h, eq-eqb _ _ k, e); output = simp (eq-eqb _ _ h, eq-eqb _ _ k, e) }

pub read-0 : {cell out after : List ℕ} → length out ≡ key_length → length cell ≡ cell_length → all_hex cell ≡ true → after ≡ read_bytes cell
    → CellRead cell out 0 after
unfolding read_number read_output
read-0 h k e a = record { number = simp (eq-eqb _ _ h, eq-eqb _ _ k, e); output = simp (eq-eqb _ _ h, eq-eqb _ _ k, e) a }

pub write-1 : {key out : List ℕ} → (length key ≡ key_length → ⊥) → CellWritten key out 1 out
unfolding write_number write_output
write-1 h = record { number = simp (ne_eqb _ _ h); output = simp (ne_eqb _ _ h) }

pub write-1-out : {key out : List ℕ} → (length out ≡ cell_length → ⊥) → CellWritten key out 1 out
unfolding write_number write_output
write-1-out h = record { number = simp (ne_eqb _ _ h, and-false); output = simp (ne_eqb _ _ h, and-false) }

pub write-0 : {key out after : List ℕ} → length key ≡ key_length → length out ≡ cell_length → after ≡ write_text key → CellWritten key out 0 after
unfolding write_number write_output
write-0 h k a = record { number = simp (eq-eqb _ _ h, eq-eqb _ _ k); output = simp (eq-eqb _ _ h, eq-eqb _ _ k) a }

-- ---- two answers that a contract allows are equal

pub read-unique : {cell out after after' : List ℕ} {r r' : ℕ} → CellRead cell out r after → CellRead cell out r' after' → (r ≡ r') × (after ≡ after')
read-unique x y = (x.number ∙ sym y.number, x.output ∙ sym y.output)

pub write-unique : {key out after after' : List ℕ} {r r' : ℕ} → CellWritten key out r after → CellWritten key out r' after' → (r ≡ r') × (after ≡ after')
write-unique x y = (x.number ∙ sym y.number, x.output ∙ sym y.output)

pub same-unique : (a b : List ℕ) {r r' : Bool} → r ≡ alike a b → r' ≡ alike a b → r ≡ r'
same-unique a b x y = x ∙ sym y

-- ---- two answers with the same number are the same answer

abbrev answer_of : ℕ → Result (Unit {0}) Refusal
answer_of n = cond (eqb n 0) (Ok tt) (cond (eqb n 1) (Err Length) (cond (eqb n 7) (Err CellLength) (Err Character)))

answer-number : (x : Result (Unit {0}) Refusal) → answer_of (number_of x) ≡ x
answer-number (Ok done) = refl
answer-number (Err Length) = refl
answer-number (Err CellLength) = refl
answer-number (Err Character) = refl

pub number-tells : (x y : Result (Unit {0}) Refusal) → number_of x ≡ number_of y → x ≡ y
number-tells x y e = sym (answer-number x) ∙ ap answer_of e ∙ answer-number y

-- ---- there is no other answer

pub data Reading (cell out : List ℕ) (r : ℕ) (after : List ℕ) : Type 0 where
  wrong-out : (length out ≡ key_length → ⊥) → r ≡ 1 → after ≡ out → Reading cell out r after
  wrong-cell : length out ≡ key_length → (length cell ≡ cell_length → ⊥) → r ≡ 7 → after ≡ out → Reading cell out r after
  not-hex : length out ≡ key_length → length cell ≡ cell_length → all_hex cell ≡ false → r ≡ 8 → after ≡ out → Reading cell out r after
  done : length out ≡ key_length → length cell ≡ cell_length → all_hex cell ≡ true → r ≡ 0 → after ≡ read_bytes cell → Reading cell out r after

pub reading : {cell out after : List ℕ} {r : ℕ} → CellRead cell out r after → Reading cell out r after
reading {cell} {out} {after} {r} x = go (eqb (length out) key_length) (eqb (length cell) cell_length) (all_hex cell) refl refl refl
  where
    go : (p q a : Bool) → eqb (length out) key_length ≡ p → eqb (length cell) cell_length ≡ q → all_hex cell ≡ a → Reading cell out r after
    go false q a e f g = let h = eqb-false _ _ e in let u = read-unique x (read-1 h) in wrong-out h u.0 u.1
    go true false a e f g =
        let h = eqb-true _ _ e in
        let k = eqb-false _ _ f in
        let u = read-unique x (read-7 h k) in
        wrong-cell h k u.0 u.1
    go true true false e f g =
        let h = eqb-true _ _ e in
        let k = eqb-true _ _ f in
        let u = read-unique x (read-8 h k g) in
        not-hex h k g u.0 u.1
    go true true true e f g =
        let h = eqb-true _ _ e in
        let k = eqb-true _ _ f in
        let u = read-unique x (read-0 h k g refl) in
        done h k g u.0 u.1

pub data Writing (key out : List ℕ) (r : ℕ) (after : List ℕ) : Type 0 where
  wrong : ((length key ≡ key_length) × (length out ≡ cell_length) → ⊥) → r ≡ 1 → after ≡ out → Writing key out r after
  written : length key ≡ key_length → length out ≡ cell_length → r ≡ 0 → after ≡ write_text key → Writing key out r after

pub writing : {key out after : List ℕ} {r : ℕ} → CellWritten key out r after → Writing key out r after
writing {key} {out} {after} {r} x = go (eqb (length key) key_length) (eqb (length out) cell_length) refl refl
  where
    go : (p q : Bool) → eqb (length key) key_length ≡ p → eqb (length out) cell_length ≡ q → Writing key out r after
    go false q e f =
        let h = eqb-false _ _ e in
        let u = write-unique x (write-1 h) in
        wrong (λ w. h w.0) u.0 u.1
    go true false e f =
        let h = eqb-false _ _ f in
        let u = write-unique x (write-1-out h) in
        wrong (λ w. h w.1) u.0 u.1
    go true true e f =
        let h = eqb-true _ _ e in
        let k = eqb-true _ _ f in
        let u = write-unique x (write-0 h k refl) in
        written h k u.0 u.1
