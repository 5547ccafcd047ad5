-- The definitions at depth zero and above it, as code that recurses on two halves of a buffer has them: the join laws give what the whole
-- holds from what the halves hold. Assumes nothing.
use mathlib.Core.Path.{◌≡◌, refl, sym, ap, ap₂, ◌∙◌}
use mathlib.Core.List.{List, [], ◌∷◌, ◌++◌}
use Prim.Native.Nat.{ℕ, zero, suc, ◌+◌, ◌-◌, ◌*◌, ◌^◌, ◌<◌, ◌≤◌}
use native.Mathlib.Numerals.{sub-one}
use borrow.Author.Tests.{lt-ltb, le-ltb}
use Rattle.octets.specs.Xor.{xor_b}
use Rattle.octets.specs.Lists.{flat, part, zero16}
use Rattle.octets.proofs.Part.{flat_append, flat-one}
use Rattle.tree.specs.Tree.{leaves_of, path_of, rebuild_of, tree_of, tree_path_of, left_of, right_of}

pub leaves-down : (f : ℕ → List ℕ → List ℕ) (d j : ℕ) (s : List ℕ) → (d ≡ 0 → ⊥)
    → flat (leaves_of f d j s) ≡ flat (leaves_of f (d - 1) (j + 1) (left_of f j s)) ++ flat (leaves_of f (d - 1) (j + 1) (right_of f j s))
unfolding leaves_of
leaves-down f zero j s h = absurd (h refl)
leaves-down f (suc d) j s h = rw sub-one (flat_append (leaves_of f d (j + 1) (left_of f j s)) (leaves_of f d (j + 1) (right_of f j s)))

pub leaves-zero : (f : ℕ → List ℕ → List ℕ) (d j : ℕ) (s : List ℕ) → d ≡ 0 → flat (leaves_of f d j s) ≡ s
unfolding leaves_of
leaves-zero f d j s e = ap (λ (n : ℕ). flat (leaves_of f n j s)) e ∙ flat-one s

-- what the two halves hold is what the whole is to hold
pub leaves-join : (f : ℕ → List ℕ → List ℕ) (d j : ℕ) (s l r y z : List ℕ) → (d ≡ 0 → ⊥) → l ≡ f j s → r ≡ xor_b l s
    → y ≡ flat (leaves_of f (d - 1) (j + 1) l) → z ≡ flat (leaves_of f (d - 1) (j + 1) r) → y ++ z ≡ flat (leaves_of f d j s)
leaves-join f d j s l r y z h el er ey ez =
    ap₂ ◌++◌ (ey ∙ ap (λ (x : List ℕ). flat (leaves_of f (d - 1) (j + 1) x)) el)
    (ez ∙ ap (λ (x : List ℕ). flat (leaves_of f (d - 1) (j + 1) x)) (er ∙ ap (λ (x : List ℕ). xor_b x s) el))
    ∙ sym (leaves-down f d j s h)

module _ (f : ℕ → List ℕ → List ℕ) where
  path-left : (d j i : ℕ) (s : List ℕ) → (d ≡ 0 → ⊥) → i < 2 ^ (d - 1)
      → flat (path_of f d j i s) ≡ flat (path_of f (d - 1) (j + 1) i (left_of f j s)) ++ right_of f j s
  unfolding path_of
  path-left zero j i s h lt = absurd (h refl)
  path-left (suc d) j i s h lt =
      let u : i < 2 ^ d = rw sub-one at lt in
      rw (lt-ltb i (2 ^ d) u, sub-one)
      (flat_append (path_of f d (j + 1) i (left_of f j s)) (right_of f j s ∷ [])
      ∙ ap (λ (x : List ℕ). flat (path_of f d (j + 1) i (left_of f j s)) ++ x) (flat-one (right_of f j s)))

  path-right : (d j i : ℕ) (s : List ℕ) → (d ≡ 0 → ⊥) → 2 ^ (d - 1) ≤ i
      → flat (path_of f d j i s) ≡ flat (path_of f (d - 1) (j + 1) (i - 2 ^ (d - 1)) (right_of f j s)) ++ left_of f j s
  unfolding path_of
  path-right zero j i s h le = absurd (h refl)
  path-right (suc d) j i s h le =
      let u : 2 ^ d ≤ i = rw sub-one at le in
      rw (le-ltb i (2 ^ d) u, sub-one)
      (flat_append (path_of f d (j + 1) (i - 2 ^ d) (right_of f j s)) (left_of f j s ∷ [])
      ∙ ap (λ (x : List ℕ). flat (path_of f d (j + 1) (i - 2 ^ d) (right_of f j s)) ++ x) (flat-one (left_of f j s)))

  rebuild-left : (d j i : ℕ) (p : List ℕ) → (d ≡ 0 → ⊥) → i < 2 ^ (d - 1)
      → flat (rebuild_of f d j i p) ≡ flat (rebuild_of f (d - 1) (j + 1) i p) ++ flat (leaves_of f (d - 1) (j + 1) (part (16 * (d - 1)) 16 p))
  unfolding rebuild_of
  rebuild-left zero j i p h lt = absurd (h refl)
  rebuild-left (suc d) j i p h lt =
      let u : i < 2 ^ d = rw sub-one at lt in
      rw (lt-ltb i (2 ^ d) u, sub-one) (flat_append (rebuild_of f d (j + 1) i p) (leaves_of f d (j + 1) (part (16 * d) 16 p)))

  rebuild-right : (d j i : ℕ) (p : List ℕ) → (d ≡ 0 → ⊥) → 2 ^ (d - 1) ≤ i
      → flat (rebuild_of f d j i p)
      ≡ flat (leaves_of f (d - 1) (j + 1) (part (16 * (d - 1)) 16 p)) ++ flat (rebuild_of f (d - 1) (j + 1) (i - 2 ^ (d - 1)) p)
  unfolding rebuild_of
  rebuild-right zero j i p h le = absurd (h refl)
  rebuild-right (suc d) j i p h le =
      let u : 2 ^ d ≤ i = rw sub-one at le in
      rw (le-ltb i (2 ^ d) u, sub-one) (flat_append (leaves_of f d (j + 1) (part (16 * d) 16 p)) (rebuild_of f d (j + 1) (i - 2 ^ d) p))

  pub path-zero : (d j i : ℕ) (s : List ℕ) → d ≡ 0 → flat (path_of f d j i s) ≡ []
  unfolding path_of flat
  path-zero d j i s e = ap (λ (n : ℕ). flat (path_of f n j i s)) e

  pub rebuild-zero : (d j i : ℕ) (p : List ℕ) → d ≡ 0 → flat (rebuild_of f d j i p) ≡ zero16
  unfolding rebuild_of
  rebuild-zero d j i p e = ap (λ (n : ℕ). flat (rebuild_of f n j i p)) e ∙ flat-one zero16

  pub path-join-left : (d j i n : ℕ) (s l r y z : List ℕ) → (d ≡ 0 → ⊥) → n ≡ 2 ^ (d - 1) → i < n → l ≡ f j s → r ≡ xor_b l s
      → y ≡ flat (path_of f (d - 1) (j + 1) i l) → z ≡ r → y ++ z ≡ flat (path_of f d j i s)
  path-join-left d j i n s l r y z h en lt el er ey ez =
      ap₂ ◌++◌ (ey ∙ ap (λ (x : List ℕ). flat (path_of f (d - 1) (j + 1) i x)) el) (ez ∙ er ∙ ap (λ (x : List ℕ). xor_b x s) el)
      ∙ sym (path-left d j i s h (rw en at lt))

  pub path-join-right : (d j i n : ℕ) (s l r y z : List ℕ) → (d ≡ 0 → ⊥) → n ≡ 2 ^ (d - 1) → n ≤ i → l ≡ f j s → r ≡ xor_b l s
      → y ≡ flat (path_of f (d - 1) (j + 1) (i - n) r) → z ≡ l → y ++ z ≡ flat (path_of f d j i s)
  path-join-right d j i n s l r y z h en le el er ey ez =
      ap₂ ◌++◌ (ey ∙ ap₂ (λ (k : ℕ) (x : List ℕ). flat (path_of f (d - 1) (j + 1) (i - k) x)) en (er ∙ ap (λ (x : List ℕ). xor_b x s) el))
      (ez ∙ el)
      ∙ sym (path-right d j i s h (rw en at le))

  pub rebuild-join-left : (d j i n : ℕ) (p x y z : List ℕ) → (d ≡ 0 → ⊥) → n ≡ 2 ^ (d - 1) → i < n → x ≡ part (16 * (d - 1)) 16 p
      → y ≡ flat (rebuild_of f (d - 1) (j + 1) i p) → z ≡ flat (leaves_of f (d - 1) (j + 1) x) → y ++ z ≡ flat (rebuild_of f d j i p)
  rebuild-join-left d j i n p x y z h en lt ex ey ez =
      ap₂ ◌++◌ ey (ez ∙ ap (λ (q : List ℕ). flat (leaves_of f (d - 1) (j + 1) q)) ex) ∙ sym (rebuild-left d j i p h (rw en at lt))

  pub rebuild-join-right : (d j i n : ℕ) (p x y z : List ℕ) → (d ≡ 0 → ⊥) → n ≡ 2 ^ (d - 1) → n ≤ i → x ≡ part (16 * (d - 1)) 16 p
      → y ≡ flat (leaves_of f (d - 1) (j + 1) x) → z ≡ flat (rebuild_of f (d - 1) (j + 1) (i - n) p) → y ++ z ≡ flat (rebuild_of f d j i p)
  rebuild-join-right d j i n p x y z h en le ex ey ez =
      ap₂ ◌++◌ (ey ∙ ap (λ (q : List ℕ). flat (leaves_of f (d - 1) (j + 1) q)) ex)
      (ez ∙ ap (λ (k : ℕ). flat (rebuild_of f (d - 1) (j + 1) (i - k) p)) en) ∙ sym (rebuild-right d j i p h (rw en at le))

  pub tree-join : (d : ℕ) (r δ o y z : List ℕ) → o ≡ xor_b r δ → y ≡ flat (leaves_of f d 1 r) → z ≡ flat (leaves_of f d 1 o)
      → y ++ z ≡ flat (tree_of f d r δ)
  unfolding tree_of
  tree-join d r δ o y z eo ey ez =
      ap₂ ◌++◌ ey (ez ∙ ap (λ (x : List ℕ). flat (leaves_of f d 1 x)) eo) ∙ sym (flat_append (leaves_of f d 1 r) (leaves_of f d 1 (xor_b r δ)))

  pub tree-path-left : (d i n : ℕ) (r δ o y z : List ℕ) → n ≡ 2 ^ d → i < n → o ≡ xor_b r δ
      → y ≡ flat (path_of f d 1 i r) → z ≡ o → y ++ z ≡ flat (tree_path_of f d i r δ)
  unfolding tree_path_of
  tree-path-left d i n r δ o y z en lt eo ey ez =
      rw (lt-ltb i (2 ^ d) (rw en at lt))
      (ap₂ ◌++◌ ey (ez ∙ eo ∙ sym (flat-one (xor_b r δ))) ∙ sym (flat_append (path_of f d 1 i r) (xor_b r δ ∷ [])))

  pub tree-path-right : (d i n : ℕ) (r δ o y z : List ℕ) → n ≡ 2 ^ d → n ≤ i → o ≡ xor_b r δ
      → y ≡ flat (path_of f d 1 (i - n) o) → z ≡ r → y ++ z ≡ flat (tree_path_of f d i r δ)
  unfolding tree_path_of
  tree-path-right d i n r δ o y z en le eo ey ez =
      rw (le-ltb i (2 ^ d) (rw en at le))
      (ap₂ ◌++◌ (ey ∙ ap₂ (λ (k : ℕ) (x : List ℕ). flat (path_of f d 1 (i - k) x)) en eo) (ez ∙ sym (flat-one r))
      ∙ sym (flat_append (path_of f d 1 (i - 2 ^ d) (xor_b r δ)) (r ∷ [])))
