-- What a refused call leaves of a buffer l whose first m elements were lent. Assumes nothing.
use mathlib.Core.Path.{◌≡◌, refl, ap, ap₂, ◌∙◌}
use mathlib.Core.Bool.{Bool, true, false, beq}
use mathlib.Core.List.{List, ◌++◌}
use Rattle.std.specs.Prelude.{⊤}
use Prim.Native.Nat.{ℕ, ◌≤◌, ◌<◌}
use native.Mathlib.Omega.{arith}
use lib.ListN.{length, take, drop, take-append-drop}
use lib.Seq.{length-take-le}
use lib.Dec.{eqb}
use lib.Pointwise.{pointwise}
use Rattle.std.proofs.lemmas.Bool.Decides.{Decides-eqb}
use Rattle.std.proofs.lemmas.Slice.Eq.{slice_eq-Decides}
use Rattle.octets.specs.Lists.{alike}
use Rattle.cells.specs.Character.{between, class_of, is_hex, hex_value}
use Rattle.cells.specs.Cell.{all_hex, read_bytes, hex_char, write_text, read_number, write_number, CellRead, CellWritten}
use Rattle.cells.proofs.Cell.{read-refused, write-refused}
use Rattle.cell_edges.specs.Edges.{but}

module _ {cell after : List ℕ} {r number : ℕ} (m : ℕ) (l : List ℕ) (h : m ≤ length l) (x : CellRead cell (take m l) r after) (e : read_number cell m ≡ number) where
  pub read-number : r ≡ number
  read-number = x.number ∙ ap (read_number cell) (length-take-le m l h) ∙ e

  pub read_kept : 0 < number → after ++ drop m l ≡ l
  read_kept k =
      let z = read-number in
      ap (λ (s : List ℕ). s ++ drop m l) (read-refused x (λ y. omega arith)) ∙ take-append-drop m l

module _
    {after : List ℕ} {r : ℕ} (k : ℕ) (key : List ℕ) (g : k ≤ length key) (m : ℕ) (l : List ℕ) (h : m ≤ length l) (x : CellWritten (take k key) (take m l) r after)
    (e : write_number k m ≡ 1) where
  pub write-number : r ≡ 1
  write-number = x.number ∙ ap₂ write_number (length-take-le k key g) (length-take-le m l h) ∙ e

  pub write_kept : after ++ drop m l ≡ l
  write_kept =
      let z = write-number in
      ap (λ (s : List ℕ). s ++ drop m l) (write-refused x (λ y. omega arith)) ∙ take-append-drop m l

-- what an array's == tells of equal ones
pub told : {xs ys : List ℕ} {r : Bool} → r ≡ pointwise eqb xs ys → xs ≡ ys → r ≡ true
told e = (slice_eq-Decides Decides-eqb _ _ _ e).1

pub beq-of : (p q : Bool) → p ≡ q → beq p q ≡ true
beq-of p q e = ap (λ (t : Bool). beq t q) e ∙ self q
  where
    self : (t : Bool) → beq t t ≡ true
    self true = refl
    self false = refl

-- what is opened to compute a case whose numbers are literals
unfoldable pub on_literals : ⊤
unfolding but read_number write_number all_hex read_bytes write_text hex_char is_hex hex_value class_of between alike
on_literals = tt
