-- Two derivation functions that agree at the layers of a tree give the same tree. Assumes nothing.
use mathlib.Core.Path.{◌≡◌, refl, ap, ap₂, ◌∙◌}
use mathlib.Core.Bool.{cond}
use mathlib.Core.List.{List, [], ◌∷◌, ◌++◌}
use Prim.Native.Nat.{ℕ, zero, suc, ◌+◌, ◌-◌, ◌*◌, ◌^◌, ◌<◌, ◌≤◌}
use native.Mathlib.Omega.{arith}
use lib.Dec.{ltb}
use Rattle.octets.specs.Xor.{xor_b}
use Rattle.octets.specs.Lists.{part}
use Rattle.tree.specs.Tree.{leaves_of, path_of, rebuild_of, tree_of, tree_path_of, left_of, right_of}

-- f and g agree at the layers from j up to, not including, j + d
unfoldable pub Agree : (ℕ → List ℕ → List ℕ) → (ℕ → List ℕ → List ℕ) → ℕ → ℕ → Type 0
Agree f g j d = (k : ℕ) (s : List ℕ) → j ≤ k → k < j + d → f k s ≡ g k s

module _ (f g : ℕ → List ℕ → List ℕ) where
  below : (d j : ℕ) → Agree f g j (suc d) → Agree f g (j + 1) d
  unfolding Agree
  below d j e k s h l = e k s (omega arith) (omega arith)

  here : (d j : ℕ) (s : List ℕ) → Agree f g j (suc d) → f j s ≡ g j s
  unfolding Agree
  here d j s e = e j s (omega arith) (omega arith)

  pub leaves-ext : (d j : ℕ) (s : List ℕ) → Agree f g j d → leaves_of f d j s ≡ leaves_of g d j s
  unfolding leaves_of
  leaves-ext zero j s e = refl
  leaves-ext (suc d) j s e =
      ap₂ ◌++◌
      (leaves-ext d (j + 1) (left_of f j s) (below d j e) ∙ ap (λ (x : List ℕ). leaves_of g d (j + 1) x) (here d j s e))
      (leaves-ext d (j + 1) (right_of f j s) (below d j e) ∙ ap (λ (x : List ℕ). leaves_of g d (j + 1) (xor_b x s)) (here d j s e))

  pub path-ext : (d j i : ℕ) (s : List ℕ) → Agree f g j d → path_of f d j i s ≡ path_of g d j i s
  unfolding path_of
  path-ext zero j i s e = refl
  path-ext (suc d) j i s e =
      let h = here d j s e in
      ap₂ (λ (a b : List (List ℕ)). cond (ltb i (2 ^ d)) a b)
      (ap₂ (λ (p : List (List ℕ)) (x : List ℕ). p ++ (xor_b x s ∷ []))
      (path-ext d (j + 1) i (left_of f j s) (below d j e) ∙ ap (λ (x : List ℕ). path_of g d (j + 1) i x) h) h)
      (ap₂ (λ (p : List (List ℕ)) (x : List ℕ). p ++ (x ∷ []))
      (path-ext d (j + 1) (i - 2 ^ d) (right_of f j s) (below d j e) ∙ ap (λ (x : List ℕ). path_of g d (j + 1) (i - 2 ^ d) (xor_b x s)) h) h)

  -- the node's own layer is not used
  pub rebuild-ext : (d j i : ℕ) (p : List ℕ) → Agree f g (j + 1) (d - 1) → rebuild_of f d j i p ≡ rebuild_of g d j i p
  unfolding rebuild_of Agree
  rebuild-ext zero j i p e = refl
  rebuild-ext (suc d) j i p e =
      let l = leaves-ext d (j + 1) (part (16 * d) 16 p) (λ k s h u. e k s h (omega arith)) in
      ap₂ (λ (a b : List (List ℕ)). cond (ltb i (2 ^ d)) a b)
      (ap₂ ◌++◌ (rebuild-ext d (j + 1) i p (λ k s h u. e k s (omega arith) (omega arith))) l)
      (ap₂ ◌++◌ l (rebuild-ext d (j + 1) (i - 2 ^ d) p (λ k s h u. e k s (omega arith) (omega arith))))

  pub tree-ext : (d : ℕ) (r δ : List ℕ) → Agree f g 1 d → tree_of f d r δ ≡ tree_of g d r δ
  unfolding tree_of
  tree-ext d r δ e = ap₂ ◌++◌ (leaves-ext d 1 r e) (leaves-ext d 1 (xor_b r δ) e)

  pub tree-path-ext : (d i : ℕ) (r δ : List ℕ) → Agree f g 1 d → tree_path_of f d i r δ ≡ tree_path_of g d i r δ
  unfolding tree_path_of
  tree-path-ext d i r δ e =
      ap₂ (λ (a b : List (List ℕ)). cond (ltb i (2 ^ d)) (a ++ (xor_b r δ ∷ [])) (b ++ (r ∷ [])))
      (path-ext d 1 i r e) (path-ext d 1 (i - 2 ^ d) (xor_b r δ) e)
