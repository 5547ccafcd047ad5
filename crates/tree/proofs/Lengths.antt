-- How many seeds a tree, a path and a rebuilt tree have, and what holds of each of them. Assumes nothing.
use mathlib.Core.Path.{◌≡◌, refl, ◌∙◌}
use mathlib.Core.Bool.{Bool, true, false, cond}
use mathlib.Core.List.{List}
use Prim.Native.Nat.{ℕ, zero, suc, ◌+◌, ◌-◌, ◌*◌, ◌^◌, ◌<◌, ◌≤◌}
use native.Mathlib.Nat.{pow-suc}
use native.Mathlib.Omega.{arith}
use lib.Dec.{ltb}
use lib.ListN.{length, length-append}
use Rattle.octets.specs.Xor.{xor_b}
use Rattle.octets.specs.Lists.{flat, part, zero16}
use Rattle.octets.proofs.Xor.{length-xor_b}
use Rattle.octets.proofs.Part.{length_part}
use Rattle.tree.specs.Tree.{leaves_of, path_of, rebuild_of, tree_of, tree_path_of, left_of, right_of, Keeps16}
use Rattle.octets.proofs.Each.{Each, All16, each-one, each_append, each-cond, length-flat}

length-cond : (t : Bool) (a b : List (List ℕ)) (n : ℕ) → length a ≡ n → length b ≡ n → length (cond t a b) ≡ n
length-cond true a b n p q = p
length-cond false a b n p q = q

-- ---- how many

module _ (f : ℕ → List ℕ → List ℕ) where
  pub length-leaves : (d j : ℕ) (s : List ℕ) → length (leaves_of f d j s) ≡ 2 ^ d
  unfolding leaves_of
  length-leaves zero j s = refl
  length-leaves (suc d) j s = simp (length-append, length-leaves d) (rw pow-suc (omega arith))

  pub length-tree : (d : ℕ) (r δ : List ℕ) → length (tree_of f d r δ) ≡ 2 ^ suc d
  unfolding tree_of
  length-tree d r δ = simp (length-append, length-leaves d) (rw pow-suc (omega arith))

  pub length-rebuild : (d j i : ℕ) (p : List ℕ) → length (rebuild_of f d j i p) ≡ 2 ^ d
  unfolding rebuild_of
  length-rebuild zero j i p = refl
  length-rebuild (suc d) j i p =
      length-cond (ltb i (2 ^ d)) _ _ (2 ^ suc d)
      (simp (length-append, length-leaves d, length-rebuild d) (rw pow-suc (omega arith)))
      (simp (length-append, length-leaves d, length-rebuild d) (rw pow-suc (omega arith)))

  pub count-path : (d j i : ℕ) (s : List ℕ) → length (path_of f d j i s) ≡ d
  unfolding path_of
  count-path zero j i s = refl
  count-path (suc d) j i s =
      length-cond (ltb i (2 ^ d)) _ _ (suc d) (simp (length-append, count-path d) (omega arith)) (simp (length-append, count-path d) (omega arith))

  pub count-tree-path : (d i : ℕ) (r δ : List ℕ) → length (tree_path_of f d i r δ) ≡ suc d
  unfolding tree_path_of
  count-tree-path d i r δ =
      length-cond (ltb i (2 ^ d)) _ _ (suc d) (simp (length-append, count-path d) (omega arith)) (simp (length-append, count-path d) (omega arith))

-- ---- what f and xor keep holds of each seed that they make

module _ (P : List ℕ → Type 0) (f : ℕ → List ℕ → List ℕ) (keeps : (j : ℕ) (s : List ℕ) → P s → P (f j s))
    (xors : (a b : List ℕ) → P a → P b → P (xor_b a b)) where
  pub each-leaves : (d j : ℕ) (s : List ℕ) → P s → Each P (leaves_of f d j s)
  unfolding leaves_of
  each-leaves zero j s p = each-one P s p
  each-leaves (suc d) j s p =
      let l = keeps j s p in
      each_append P _ _ (each-leaves d (j + 1) (left_of f j s) l) (each-leaves d (j + 1) (right_of f j s) (xors (f j s) s l p))

  pub each-tree : (d : ℕ) (r δ : List ℕ) → P r → P δ → Each P (tree_of f d r δ)
  unfolding tree_of
  each-tree d r δ p q = each_append P _ _ (each-leaves d 1 r p) (each-leaves d 1 (xor_b r δ) (xors r δ p q))

  pub each-path : (d j i : ℕ) (s : List ℕ) → P s → Each P (path_of f d j i s)
  unfolding path_of
  each-path zero j i s p = unfold Each in tt
  each-path (suc d) j i s p =
      let l = keeps j s p in
      let r = xors (f j s) s l p in
      each-cond P (ltb i (2 ^ d)) _ _
      (each_append P _ _ (each-path d (j + 1) i (left_of f j s) l) (each-one P (right_of f j s) r))
      (each_append P _ _ (each-path d (j + 1) (i - 2 ^ d) (right_of f j s) r) (each-one P (left_of f j s) l))

  pub each-tree-path : (d i : ℕ) (r δ : List ℕ) → P r → P δ → Each P (tree_path_of f d i r δ)
  unfolding tree_path_of
  each-tree-path d i r δ p q =
      let o = xors r δ p q in
      each-cond P (ltb i (2 ^ d)) _ _
      (each_append P _ _ (each-path d 1 i r p) (each-one P (xor_b r δ) o))
      (each_append P _ _ (each-path d 1 (i - 2 ^ d) (xor_b r δ) o) (each-one P r p))

  -- of any path
  pub each-rebuild : P zero16 → (d j i : ℕ) (p : List ℕ) → ((k : ℕ) → k < d → P (part (16 * k) 16 p)) → Each P (rebuild_of f d j i p)
  unfolding rebuild_of
  each-rebuild z zero j i p h = each-one P zero16 z
  each-rebuild z (suc d) j i p h =
      let l = each-leaves d (j + 1) (part (16 * d) 16 p) (h d (omega arith)) in
      each-cond P (ltb i (2 ^ d)) _ _
      (each_append P _ _ (each-rebuild z d (j + 1) i p (λ k hk. h k (omega arith))) l)
      (each_append P _ _ l (each-rebuild z d (j + 1) (i - 2 ^ d) p (λ k hk. h k (omega arith))))

-- ---- 16 bytes each

module _ (f : ℕ → List ℕ → List ℕ) (keeps : Keeps16 f) where
  kept : (j : ℕ) (s : List ℕ) → length s ≡ 16 → length (f j s) ≡ 16
  unfolding Keeps16
  kept = keeps

  pub all-leaves : (d j : ℕ) (s : List ℕ) → length s ≡ 16 → All16 (leaves_of f d j s)
  all-leaves = each-leaves (λ s. length s ≡ 16) f kept (length-xor_b 16)

  pub all-tree : (d : ℕ) (r δ : List ℕ) → length r ≡ 16 → length δ ≡ 16 → All16 (tree_of f d r δ)
  all-tree = each-tree (λ s. length s ≡ 16) f kept (length-xor_b 16)

  pub all-path : (d j i : ℕ) (s : List ℕ) → length s ≡ 16 → All16 (path_of f d j i s)
  all-path = each-path (λ s. length s ≡ 16) f kept (length-xor_b 16)

  pub all-tree-path : (d i : ℕ) (r δ : List ℕ) → length r ≡ 16 → length δ ≡ 16 → All16 (tree_path_of f d i r δ)
  all-tree-path = each-tree-path (λ s. length s ≡ 16) f kept (length-xor_b 16)

  pub all-rebuild : (d j i : ℕ) (p : List ℕ) → 16 * d ≤ length p → All16 (rebuild_of f d j i p)
  all-rebuild d j i p h =
      each-rebuild (λ s. length s ≡ 16) f kept (length-xor_b 16) refl d j i p (λ k hk. length_part (16 * k) 16 p (omega arith))

  -- laid end to end
  pub length-flat-leaves : (d j : ℕ) (s : List ℕ) → length s ≡ 16 → length (flat (leaves_of f d j s)) ≡ 16 * 2 ^ d
  length-flat-leaves d j s h = length-flat _ (all-leaves d j s h) ∙ omega (arith, length-leaves f d j s)

  pub length-flat-tree : (d : ℕ) (r δ : List ℕ) → length r ≡ 16 → length δ ≡ 16 → length (flat (tree_of f d r δ)) ≡ 16 * 2 ^ suc d
  length-flat-tree d r δ p q = length-flat _ (all-tree d r δ p q) ∙ omega (arith, length-tree f d r δ)

  pub length-path : (d j i : ℕ) (s : List ℕ) → length s ≡ 16 → length (flat (path_of f d j i s)) ≡ 16 * d
  length-path d j i s h = length-flat _ (all-path d j i s h) ∙ omega (arith, count-path f d j i s)

  pub length-tree-path : (d i : ℕ) (r δ : List ℕ) → length r ≡ 16 → length δ ≡ 16 → length (flat (tree_path_of f d i r δ)) ≡ 16 * suc d
  length-tree-path d i r δ p q = length-flat _ (all-tree-path d i r δ p q) ∙ omega (arith, count-tree-path f d i r δ)

  pub length-flat-rebuild : (d j i : ℕ) (p : List ℕ) → 16 * d ≤ length p → length (flat (rebuild_of f d j i p)) ≡ 16 * 2 ^ d
  length-flat-rebuild d j i p h = length-flat _ (all-rebuild d j i p h) ∙ omega (arith, length-rebuild f d j i p)
