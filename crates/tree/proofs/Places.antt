-- The law of the path, seed by seed: of the lists, and of the bytes in the buffers. Assumes nothing.
use mathlib.Core.Path.{◌≡◌, refl, sym, ap, ◌∙◌}
use mathlib.Core.Logic.{◌≢◌}
use mathlib.Core.List.{List, []}
use Prim.Native.Nat.{ℕ, suc, ◌*◌, ◌^◌, ◌<◌}
use native.Mathlib.Omega.{arith}
use lib.ListN.{length, get_or, set, length-set}
use lib.Seq.{get_or-set_other, get_or-set_same}
use Rattle.octets.specs.Lists.{flat, part, zero16}
use Rattle.tree.specs.Tree.{leaves_of, path_of, rebuild_of, tree_of, tree_path_of, Keeps16}
use Rattle.octets.proofs.Each.{each_set, each_at, part-flat}
use Rattle.tree.proofs.Lengths.{all-tree, length-leaves, length-tree}
use Rattle.tree.specs.Layers.{ggm_nodes, ggm_expand, ggm_open, ggm_partially_expand}
use Rattle.tree.proofs.Layers.{expand-layers, open-layers}
use Rattle.tree.proofs.Partial.{partially-expand-layers}
use Rattle.tree.proofs.Laws.{rebuild-leaves-all, rebuild-tree-all}

-- ---- below a node

module _ (f : ℕ → List ℕ → List ℕ) (keeps : Keeps16 f) (d j i : ℕ) (s : List ℕ) (hs : length s ≡ 16) (hidden : i < 2 ^ d) where
  pub below-same : (k : ℕ) → k ≢ i → get_or (rebuild_of f d j i (flat (path_of f d j i s))) k [] ≡ get_or (leaves_of f d j s) k []
  below-same k ne =
      ap (λ (l : List (List ℕ)). get_or l k []) (rebuild-leaves-all f keeps d j i s hs hidden)
      ∙ get_or-set_other (leaves_of f d j s) i k zero16 [] ne

  pub below-hidden : get_or (rebuild_of f d j i (flat (path_of f d j i s))) i [] ≡ zero16
  below-hidden =
      ap (λ (l : List (List ℕ)). get_or l i []) (rebuild-leaves-all f keeps d j i s hs hidden)
      ∙ get_or-set_same (leaves_of f d j s) i zero16 [] (omega (arith, length-leaves f d j s))

-- ---- the whole tree

module _ (f : ℕ → List ℕ → List ℕ) (keeps : Keeps16 f) (d : ℕ) (r δ : List ℕ) (hr : length r ≡ 16) (hd : length δ ≡ 16) where
  pub leaf-16 : (k : ℕ) → k < 2 ^ suc d → length (get_or (tree_of f d r δ) k []) ≡ 16
  leaf-16 k h = each_at (λ s. length s ≡ 16) (tree_of f d r δ) k (all-tree f keeps d r δ hr hd) (omega (arith, length-tree f d r δ))

  module _ (i : ℕ) (hidden : i < 2 ^ suc d) where
    -- every leaf but the hidden one is the signer's, at its place
    pub leaf-same : (k : ℕ) → k ≢ i → get_or (rebuild_of f (suc d) 0 i (flat (tree_path_of f d i r δ))) k [] ≡ get_or (tree_of f d r δ) k []
    leaf-same k ne =
        ap (λ (l : List (List ℕ)). get_or l k []) (rebuild-tree-all f keeps d i r δ hr hd hidden)
        ∙ get_or-set_other (tree_of f d r δ) i k zero16 [] ne

    -- and the hidden one is zeros
    pub leaf-hidden : get_or (rebuild_of f (suc d) 0 i (flat (tree_path_of f d i r δ))) i [] ≡ zero16
    leaf-hidden =
        ap (λ (l : List (List ℕ)). get_or l i []) (rebuild-tree-all f keeps d i r δ hr hd hidden)
        ∙ get_or-set_same (tree_of f d r δ) i zero16 [] (omega (arith, length-tree f d r δ))

    -- the same of the bytes
    rebuilt-at : (k : ℕ) → k < 2 ^ suc d
        → part (16 * k) 16 (flat (rebuild_of f (suc d) 0 i (flat (tree_path_of f d i r δ))))
        ≡ get_or (rebuild_of f (suc d) 0 i (flat (tree_path_of f d i r δ))) k []
    rebuilt-at k h =
        let t = tree_of f d r δ in
        rw (rebuild-tree-all f keeps d i r δ hr hd hidden)
        (part-flat (set t i zero16) k (each_set (λ s. length s ≡ 16) t i zero16 refl (all-tree f keeps d r δ hr hd))
        (simp length-set (omega (arith, length-tree f d r δ))))

    pub leaf-rebuilt : (k : ℕ) → k < 2 ^ suc d → k ≢ i
        → part (16 * k) 16 (flat (rebuild_of f (suc d) 0 i (flat (tree_path_of f d i r δ)))) ≡ part (16 * k) 16 (flat (tree_of f d r δ))
    leaf-rebuilt k h ne =
        rebuilt-at k h ∙ leaf-same k ne
        ∙ sym (part-flat (tree_of f d r δ) k (all-tree f keeps d r δ hr hd) (omega (arith, length-tree f d r δ)))

    pub hidden-zero : part (16 * i) 16 (flat (rebuild_of f (suc d) 0 i (flat (tree_path_of f d i r δ)))) ≡ zero16
    hidden-zero = rebuilt-at i hidden ∙ leaf-hidden

-- ---- the algorithms as they stand

-- from the path that Open gives, PartiallyExpand makes what Expand made, with zeros in the place of the hidden leaf
pub partially-expand-open : (f : ℕ → List ℕ → List ℕ) → Keeps16 f → (d i : ℕ) (r δ : List ℕ) → length r ≡ 16 → length δ ≡ 16 → i < 2 ^ suc d
    → ggm_partially_expand f (suc d) (flat (ggm_open (suc d) (ggm_nodes f (suc d) r δ) i)) i ≡ set (ggm_expand f (suc d) r δ) i zero16
partially-expand-open f keeps d i r δ hr hd lt =
    ap (λ (p : List (List ℕ)). ggm_partially_expand f (suc d) (flat p) i) (open-layers f d i r δ lt)
    ∙ partially-expand-layers f (suc d) (flat (tree_path_of f d i r δ)) i lt
    ∙ rebuild-tree-all f keeps d i r δ hr hd lt
    ∙ ap (λ (l : List (List ℕ)). set l i zero16) (sym (expand-layers f d r δ))
