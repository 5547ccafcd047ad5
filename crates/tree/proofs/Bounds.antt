-- Trees, paths and rebuilt trees are made of bytes where their seeds are and the derivation keeps bytes. Assumes nothing.
use mathlib.Core.List.{List}
use Prim.Native.Nat.{ℕ, ◌*◌}
use Rattle.octets.specs.Lists.{Bytes}
use Rattle.octets.proofs.Bounds.{bytes-xor_b, bytes-zero16, bytes-part}
use Rattle.tree.specs.Tree.{leaves_of, path_of, rebuild_of, tree_of, tree_path_of, KeepsBytes}
use Rattle.octets.proofs.Each.{Each}
use Rattle.tree.proofs.Lengths.{each-leaves, each-tree, each-path, each-tree-path, each-rebuild}

module _ (f : ℕ → List ℕ → List ℕ) (keeps : KeepsBytes f) where
  kept : (j : ℕ) (s : List ℕ) → Bytes s → Bytes (f j s)
  unfolding KeepsBytes
  kept = keeps

  pub bytes-leaves : (d j : ℕ) (s : List ℕ) → Bytes s → Each Bytes (leaves_of f d j s)
  bytes-leaves = each-leaves Bytes f kept bytes-xor_b

  pub bytes-tree : (d : ℕ) (r δ : List ℕ) → Bytes r → Bytes δ → Each Bytes (tree_of f d r δ)
  bytes-tree = each-tree Bytes f kept bytes-xor_b

  pub bytes-path : (d j i : ℕ) (s : List ℕ) → Bytes s → Each Bytes (path_of f d j i s)
  bytes-path = each-path Bytes f kept bytes-xor_b

  pub bytes-tree-path : (d i : ℕ) (r δ : List ℕ) → Bytes r → Bytes δ → Each Bytes (tree_path_of f d i r δ)
  bytes-tree-path = each-tree-path Bytes f kept bytes-xor_b

  pub bytes-rebuild : (d j i : ℕ) (p : List ℕ) → Bytes p → Each Bytes (rebuild_of f d j i p)
  bytes-rebuild d j i p h = each-rebuild Bytes f kept bytes-xor_b bytes-zero16 d j i p (λ k hk. bytes-part (16 * k) 16 p h)
