-- A tape is added: the first row is lent apart from the others, and one of these with it. Assumes nothing.
use Rattle.std.proofs.Common.{◌≡◌, ℕ, ◌+◌, ◌-◌, ◌*◌, ◌<◌, ◌≤◌, List, ◌++◌, length, take, drop, sym, ap, ap₂, subst, ◌∙◌, arith, length-append, length-drop}
use Rattle.std.proofs.lemmas.List.{get_or_append_left, get_or-append_right}
use Rattle.std.proofs.lemmas.Bool.{cases_lt}
use mathlib.Core.Logic.{◌⊎◌, inl, inr}
use lib.Seq.{get_or-drop}
use Rattle.octets.specs.Lists.{vec, part}
use Rattle.octets.specs.Xor.{◌⊕◌, xor_b}
use Rattle.octets.specs.Place.{place}
use Rattle.octets.proofs.Xor.{length-xor_b, vec-xor_b}
use Rattle.octets.proofs.Part.{length_part, vec-part}
use Rattle.octets.proofs.Place.{length-place, place-write}
use Rattle.octets.proofs.Frame.{vec-place, vec-place-before, vec-place-after}
use Rattle.folding.specs.Rows.{Added}

module _ (f r : List ℕ) (p : ℕ) (lf : length f ≡ 504) (lr : length r ≡ 56) (hp : p < 8) where
  abbrev acc : List ℕ
  acc = xor_b (part 0 56 f) r

  abbrev rows : List ℕ
  rows = drop 56 f

  abbrev fd : List ℕ
  fd = xor_b (part (56 * p) 56 rows) acc

  abbrev g : List ℕ
  g = acc ++ place (56 * p) fd rows

  length-acc : length acc ≡ 56
  length-acc = length-xor_b 56 _ r (length_part 0 56 f (omega arith)) lr

  length-rows : length rows ≡ 448
  length-rows = length-drop 56 f ∙ omega arith

  length-row : length (part (56 * p) 56 rows) ≡ 56
  length-row = length_part (56 * p) 56 rows (omega (arith, length-rows))

  length-fd : length fd ≡ 56
  length-fd = length-xor_b 56 _ acc length-row length-acc

  vec-acc : (b : ℕ) → b < 56 → vec acc b ≡ vec f b ⊕ vec r b
  vec-acc b h =
      let none : 0 + b ≡ b = omega arith in
      vec-xor_b (part 0 56 f) r b (omega (arith, length_part 0 56 f (omega arith))) (omega arith) ∙ ap (◌⊕ vec r b) (vec-part 0 56 f b h ∙ ap (vec f) none)

  -- row j + 1 is row j of the others
  vec-rows : (j b : ℕ) → vec rows (56 * j + b) ≡ vec f (56 * (j + 1) + b)
  vec-rows j b = let at : 56 + (56 * j + b) ≡ 56 * (j + 1) + b = omega arith in get_or-drop 56 f (56 * j + b) 0 ∙ ap (vec f) at

  vec-behind : (j b : ℕ) → vec g (56 * (j + 1) + b) ≡ vec (place (56 * p) fd rows) (56 * j + b)
  vec-behind j b =
      let at : 56 * (j + 1) + b - 56 ≡ 56 * j + b = omega arith in
      get_or-append_right acc _ 56 (56 * (j + 1) + b) 0 length-acc (omega arith) ∙ ap (vec (place (56 * p) fd rows)) at

  added : Added f r p g
  added =
      record {
        long = length-append acc _ ∙ omega (arith, length-acc, length-place (56 * p) fd rows, length-rows);
        acc = λ b h. get_or_append_left acc _ 0 b (omega (arith, length-acc)) ∙ vec-acc b h;
        fd =
            λ b h.
            vec-behind p b
            ∙ vec-place (56 * p) fd rows b (omega (arith, length-fd)) (omega (arith, length-rows))
            ∙ vec-xor_b (part (56 * p) 56 rows) acc b (omega (arith, length-row)) (omega (arith, length-acc))
            ∙ ap₂ ◌⊕◌ (vec-part (56 * p) 56 rows b h ∙ vec-rows p b) (vec-acc b h);
        kept = λ j b hj h ne. vec-behind j b ∙ apart j b h ne (cases_lt j p) ∙ vec-rows j b;
      }
    where
      apart : (j b : ℕ) → b < 56 → (j ≡ p → ⊥) → (j < p) ⊎ (p ≤ j) → vec (place (56 * p) fd rows) (56 * j + b) ≡ vec rows (56 * j + b)
      apart j b h ne (inl l) = vec-place-before (56 * p) fd rows (56 * j + b) (omega arith)
      apart j b h ne (inr l) = vec-place-after (56 * p) fd rows (56 * j + b) (omega (arith, length-fd))

  -- as the code has it
  pub tape-added : (a s y : List ℕ) (k : ℕ) → a ≡ xor_b (take 56 f) r → s ≡ drop 56 f → k ≡ 56 → y ≡ xor_b (take k (drop (56 * p) s)) a
      → Added f r p (a ++ (take (56 * p) s ++ (y ++ drop k (drop (56 * p) s))))
  unfolding part
  tape-added a s y k ea es ek ey = subst (Added f r p) (sym same) added
    where
      same : a ++ (take (56 * p) s ++ (y ++ drop k (drop (56 * p) s))) ≡ g
      same =
          ap₂ ◌++◌ ea
          (place-write (56 * p) k 56 y fd s rows (ey ∙ ap₂ xor_b (ap₂ (λ (n : ℕ) (l : List ℕ). take n (drop (56 * p) l)) ek es) ea) es length-fd ek (omega (arith, length-rows)))
