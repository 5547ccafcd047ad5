-- The fields of a signature: where they lie, that in document 001's order they are the whole of it, and what they are of a signature that
-- Sign made. Assumes nothing.
use mathlib.Core.Path.{◌≡◌, refl, sym, ap, ◌∙◌}
use mathlib.Core.Logic.{◌≢◌}
use mathlib.Core.Bool.{Bool, true, false, cond}
use mathlib.Core.List.{List, [], ◌++◌}
use Prim.Native.Nat.{ℕ, ◌+◌, ◌*◌, ◌<◌, ◌≤◌}
use native.Mathlib.Nat.{suc-mul, mul_comm, mul-le-mul_right, le_trans}
use native.Mathlib.Omega.{arith}
use lib.Dec.{eqb}
use lib.ListN.{length}
use borrow.Author.Tests.{eq-eqb, ne_eqb, eqb-true}
use Rattle.octets.specs.Lists.{part, joined}
use Rattle.octets.proofs.Part.{part-all}
use Rattle.octets.proofs.Frame.{part-add, part-part}
use Rattle.mqom.specs.Fields.{field_of, salt_in, com1_in, com2_in, lines_in, openings_in, paths_in, hiddens_in, corrections_in, nonce_in, line_in, path_in, hidden_commitment_in, correction_in}
use Rattle.octets.proofs.Slices.{part-past, part-over, length-part-le, joined-part}

-- ---- where they lie

pub field-whole : (f : List ℕ → List ℕ) (sig : List ℕ) → length sig ≡ 3484 → field_of f sig ≡ f sig
unfolding field_of
field-whole f sig h = simp (eq-eqb _ _ h)

-- of bytes that are not 3484 long, the empty part
pub field-empty : (f : List ℕ → List ℕ) (sig : List ℕ) → length sig ≢ 3484 → field_of f sig ≡ []
unfolding field_of
field-empty f sig h = simp (ne_eqb _ _ h)

length-field : (n : ℕ) (f : List ℕ → List ℕ) (sig : List ℕ) → length (f sig) ≤ n → length (field_of f sig) ≤ n
unfolding field_of
length-field n f sig h = go (eqb (length sig) 3484)
  where
    go : (t : Bool) → length (cond t (f sig) []) ≤ n
    go true = h
    go false = omega arith

-- repetition e ends before 17 of them do
pub repetition-ends : (e len : ℕ) → e < 17 → e * len + len ≤ 17 * len
repetition-ends e len h = rw (suc-mul e len) at (mul-le-mul_right len h)

module _ (at len e : ℕ) (sig : List ℕ) where
  pub repetition-at : at + 17 * len ≤ 3484 → e < 17 → field_of (part (at + e * len) len) sig ≡ part (len * e) len (field_of (part at (17 * len)) sig)
  unfolding field_of
  repetition-at h he = go (eqb (length sig) 3484) refl
    where
      go : (t : Bool) → eqb (length sig) 3484 ≡ t → cond t (part (at + e * len) len sig) [] ≡ part (len * e) len (cond t (part at (17 * len) sig) [])
      go true q =
          ap (λ (o : ℕ). part (at + o) len sig) (mul_comm e len)
          ∙ sym (part-part at (17 * len) (len * e) len sig (rw (mul_comm len e) (repetition-ends e len he)) (omega (arith, eqb-true (length sig) 3484 q)))
      go false q = sym (part-past (len * e) len [] (omega arith))

  -- where there is no repetition e, the empty part
  pub repetition-past : 17 ≤ e → part (len * e) len (field_of (part at (17 * len)) sig) ≡ []
  repetition-past h =
      part-past (len * e) len _
      (le_trans (length-field (17 * len) (part at (17 * len)) sig (length-part-le at (17 * len) sig)) (rw (mul_comm len e) (mul-le-mul_right len h)))

-- ---- in document 001's order they are the whole

module _ (sig : List ℕ) where
  -- of bytes of any length
  pub openings-tile : paths_in sig ++ hiddens_in sig ++ corrections_in sig ≡ openings_in sig
  unfolding field_of
  openings-tile = go (eqb (length sig) 3484)
    where
      go : (t : Bool) → cond t (part 556 2176 sig) [] ++ cond t (part 2732 544 sig) [] ++ cond t (part 3276 204 sig) [] ≡ cond t (part 556 2924 sig) []
      go true = sym (part-add 556 2720 204 sig ∙ ap (λ (l : List ℕ). l ++ part 3276 204 sig) (part-add 556 2176 544 sig))
      go false = refl

  pub lines-tile : joined 17 (λ e. line_in e sig) ≡ lines_in sig
  lines-tile = joined-part 17 28 (lines_in sig) ∙ part-over 476 (lines_in sig) (length-field 476 (part 80 476) sig (length-part-le 80 476 sig))

  pub paths-tile : joined 17 (λ e. path_in e sig) ≡ paths_in sig
  paths-tile = joined-part 17 128 (paths_in sig) ∙ part-over 2176 (paths_in sig) (length-field 2176 (part 556 2176) sig (length-part-le 556 2176 sig))

  pub hiddens-tile : joined 17 (λ e. hidden_commitment_in e sig) ≡ hiddens_in sig
  hiddens-tile = joined-part 17 32 (hiddens_in sig) ∙ part-over 544 (hiddens_in sig) (length-field 544 (part 2732 544) sig (length-part-le 2732 544 sig))

  pub corrections-tile : joined 17 (λ e. correction_in e sig) ≡ corrections_in sig
  corrections-tile =
      joined-part 17 12 (corrections_in sig) ∙ part-over 204 (corrections_in sig) (length-field 204 (part 3276 204) sig (length-part-le 3276 204 sig))

  pub fields-tile : length sig ≡ 3484 → salt_in sig ++ com1_in sig ++ com2_in sig ++ lines_in sig ++ openings_in sig ++ nonce_in sig ≡ sig
  unfolding field_of
  fields-tile h =
      simp (eq-eqb _ _ h)
      (sym
      (sym (part-all 3484 sig h)
      ∙ part-add 0 3480 4 sig
      ∙ ap (λ (l : List ℕ). l ++ part 3480 4 sig)
      (part-add 0 556 2924 sig
      ∙ ap (λ (l : List ℕ). l ++ part 556 2924 sig)
      (part-add 0 80 476 sig
      ∙ ap (λ (l : List ℕ). l ++ part 80 476 sig)
      (part-add 0 48 32 sig ∙ ap (λ (l : List ℕ). l ++ part 48 32 sig) (part-add 0 16 32 sig))))))
