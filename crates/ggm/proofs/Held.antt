-- Where the keys are those of tree e, the trees are the scheme's. Assumes nothing.
use mathlib.Core.Path.{◌≡◌, ap, ◌∙◌}
use mathlib.Core.List.{List, []}
use Prim.Native.Nat.{ℕ, ◌*◌, ◌<◌, ◌≤◌}
use native.Mathlib.Omega.{arith}
use lib.ListN.{length, get_or}
use Rattle.octets.specs.Lists.{flat, part}
use Rattle.tree.specs.Tree.{rebuild_of, tree_of, tree_path_of, Keeps16}
use Rattle.octets.proofs.Each.{part-flat}
use Rattle.tree.proofs.Lengths.{all-tree, all-rebuild, length-tree, length-rebuild}
use Rattle.tree.proofs.Ext.{Agree, rebuild-ext, tree-ext, tree-path-ext}
use Rattle.paper.specs.Commit.{derive_in}
use Rattle.paper.proofs.Symmetric.{length-derive}
use Rattle.seeds.specs.Expanded.{tree_keys}
use Rattle.seeds.proofs.Routines.{derive_in-held}
use Rattle.ggm.specs.Ggm.{derive_by}

module _ (salt : List ℕ) (e : ℕ) (keys : List ℕ) (held : keys ≡ tree_keys salt e) where
  agree : Agree (derive_by keys) (derive_in salt e) 1 7
  unfolding Agree derive_by
  agree j s h l = derive_in-held salt e keys held s j h (omega arith)

  pub tree-held : (r δ : List ℕ) → tree_of (derive_by keys) 7 r δ ≡ tree_of (derive_in salt e) 7 r δ
  tree-held r δ = tree-ext (derive_by keys) (derive_in salt e) 7 r δ agree

  pub tree-path-held : (i : ℕ) (r δ : List ℕ) → tree_path_of (derive_by keys) 7 i r δ ≡ tree_path_of (derive_in salt e) 7 i r δ
  tree-path-held i r δ = tree-path-ext (derive_by keys) (derive_in salt e) 7 i r δ agree

  pub rebuild-held : (i : ℕ) (p : List ℕ) → rebuild_of (derive_by keys) 8 0 i p ≡ rebuild_of (derive_in salt e) 8 0 i p
  rebuild-held i p = rebuild-ext (derive_by keys) (derive_in salt e) 8 0 i p agree

  -- seed k of a buffer that holds the leaves

  keeps : Keeps16 (derive_in salt e)
  unfolding Keeps16 derive_in
  keeps j s h = length-derive _ s h

  pub leaf-held : (r δ buf : List ℕ) (k : ℕ) → length r ≡ 16 → length δ ≡ 16 → buf ≡ flat (tree_of (derive_by keys) 7 r δ) → k < 256
      → part (16 * k) 16 buf ≡ get_or (tree_of (derive_in salt e) 7 r δ) k []
  leaf-held r δ buf k hr hd b h =
      ap (part (16 * k) 16) (b ∙ ap flat (tree-held r δ))
      ∙ part-flat (tree_of (derive_in salt e) 7 r δ) k (all-tree (derive_in salt e) keeps 7 r δ hr hd) (omega (arith, length-tree (derive_in salt e) 7 r δ))

  pub rebuilt-held : (i : ℕ) (p buf : List ℕ) (k : ℕ) → 128 ≤ length p → buf ≡ flat (rebuild_of (derive_by keys) 8 0 i p) → k < 256
      → part (16 * k) 16 buf ≡ get_or (rebuild_of (derive_in salt e) 8 0 i p) k []
  rebuilt-held i p buf k hp b h =
      ap (part (16 * k) 16) (b ∙ ap flat (rebuild-held i p))
      ∙ part-flat (rebuild_of (derive_in salt e) 8 0 i p) k (all-rebuild (derive_in salt e) keeps 8 0 i p hp) (omega (arith, length-rebuild (derive_in salt e) 8 0 i p))
