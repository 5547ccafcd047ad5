-- The hidden leaf's seed, on the way down to it; and a path that grows at its end. Assumes nothing.
use mathlib.Core.Path.{◌≡◌, refl, sym, ap, ◌∙◌}
use mathlib.Core.List.{List, [], ◌++◌}
use Prim.Native.Nat.{ℕ, zero, suc, ◌+◌, ◌-◌, ◌^◌, ◌<◌, ◌≤◌}
use native.Mathlib.Numerals.{sub-one}
use native.Mathlib.Omega.{arith}
use lib.ListN.{length, get_or, get_or-append}
use lib.Seq.{get_or-append-add}
use Rattle.octets.specs.Xor.{xor_b}
use Rattle.tree.specs.Tree.{leaves_of, tree_of, left_of, right_of}
use Rattle.tree.proofs.Lengths.{length-leaves}

-- an element of the second of two lists
get_or-right : (a b : List (List ℕ)) (n i : ℕ) → length a ≡ n → n ≤ i → get_or (a ++ b) i [] ≡ get_or b (i - n) []
get_or-right a b n i h l =
    ap (λ (k : ℕ). get_or (a ++ b) k []) there ∙ get_or-append-add a b (i - n) []
  where
    there : i ≡ length a + (i - n)
    there = omega arith

module _ (f : ℕ → List ℕ → List ℕ) where
  pub leaf-zero : (d j i : ℕ) (s : List ℕ) → d ≡ 0 → i < 2 ^ d → s ≡ get_or (leaves_of f d j s) i []
  unfolding leaves_of
  leaf-zero zero j zero s e h = refl
  leaf-zero zero j (suc i) s e h = absurd (omega arith)
  leaf-zero (suc d) j i s e h = absurd (omega arith)

  pub leaf-join-left : (d j i n : ℕ) (s l x : List ℕ) → (d ≡ 0 → ⊥) → n ≡ 2 ^ (d - 1) → i < n → l ≡ f j s
      → x ≡ get_or (leaves_of f (d - 1) (j + 1) l) i [] → x ≡ get_or (leaves_of f d j s) i []
  unfolding leaves_of
  leaf-join-left zero j i n s l x h en lt el ex = absurd (h refl)
  leaf-join-left (suc d) j i n s l x h en lt el ex =
      let lower : i < 2 ^ d = rw (en, sub-one) at lt in
      rw sub-one at ex ∙ ap (λ (y : List ℕ). get_or (leaves_of f d (j + 1) y) i []) el
      ∙ sym (get_or-append (leaves_of f d (j + 1) (left_of f j s)) (leaves_of f d (j + 1) (right_of f j s)) [] i (omega (arith, length-leaves f d (j + 1) (left_of f j s))))

  pub leaf-join-right : (d j i n : ℕ) (s l r x : List ℕ) → (d ≡ 0 → ⊥) → n ≡ 2 ^ (d - 1) → n ≤ i → l ≡ f j s → r ≡ xor_b l s
      → x ≡ get_or (leaves_of f (d - 1) (j + 1) r) (i - n) [] → x ≡ get_or (leaves_of f d j s) i []
  unfolding leaves_of
  leaf-join-right zero j i n s l r x h en le el er ex = absurd (h refl)
  leaf-join-right (suc d) j i n s l r x h en le el er ex =
      let same : n ≡ 2 ^ d = rw sub-one at en in
      rw sub-one at ex ∙ ap (λ (y : List ℕ). get_or (leaves_of f d (j + 1) y) (i - n) []) (er ∙ ap (λ (y : List ℕ). xor_b y s) el)
      ∙ sym (get_or-right (leaves_of f d (j + 1) (left_of f j s)) (leaves_of f d (j + 1) (right_of f j s)) n i (length-leaves f d (j + 1) (left_of f j s) ∙ sym same) le)

  pub tree-leaf-left : (d i n : ℕ) (r δ x : List ℕ) → n ≡ 2 ^ d → i < n → x ≡ get_or (leaves_of f d 1 r) i [] → x ≡ get_or (tree_of f d r δ) i []
  unfolding tree_of
  tree-leaf-left d i n r δ x en lt ex = ex ∙ sym (get_or-append (leaves_of f d 1 r) (leaves_of f d 1 (xor_b r δ)) [] i (omega (arith, length-leaves f d 1 r)))

  pub tree-leaf-right : (d i n : ℕ) (r δ o x : List ℕ) → n ≡ 2 ^ d → n ≤ i → o ≡ xor_b r δ → x ≡ get_or (leaves_of f d 1 o) (i - n) [] → x ≡ get_or (tree_of f d r δ) i []
  unfolding tree_of
  tree-leaf-right d i n r δ o x en le eo ex =
      ex ∙ ap (λ (s : List ℕ). get_or (leaves_of f d 1 s) (i - n) []) eo
      ∙ sym (get_or-right (leaves_of f d 1 r) (leaves_of f d 1 (xor_b r δ)) n i (length-leaves f d 1 r ∙ sym en) le)
