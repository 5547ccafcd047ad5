-- Algorithms 14 and 15 as they stand give the tree and the path by halves. Assumes nothing.
use mathlib.Core.Path.{◌≡◌, refl, sym, ap, ap₂, ◌∙◌}
use mathlib.Core.Logic.{⊎_elim}
use mathlib.Core.Bool.{cond}
use mathlib.Core.List.{List, [], ◌∷◌, ◌++◌}
use Prim.Native.Nat.{ℕ, zero, suc, ◌+◌, ◌-◌, ◌*◌, ◌/◌, ◌^◌, ◌<◌}
use native.Mathlib.Nat.{pow-suc, eq-zero-or-pos, div-one, one-mul, add-zero}
use native.Mathlib.Omega.{arith}
use lib.Pow.{shr-shr}
use lib.Dec.{ltb, lit<, lit≤}
use borrow.Author.Tests.{lt-ltb, le-ltb}
use Rattle.octets.specs.Xor.{◌⊕◌, xor_b}
use Rattle.tree.specs.Tree.{path_of, tree_of, tree_path_of, left_of, right_of}
use Rattle.tree.specs.Layers.{put, row, derive_node, ggm_nodes, ggm_expand, siblings, ggm_open}
use Rattle.tree.proofs.Sibling.{sibling-even, sibling-odd, leaf-left, leaf-right, above-left, above-right}
use Rattle.tree.proofs.Arrays.{put_same, put_other, pair-even, pair-odd, pair-other, row-halves}
use Rattle.tree.proofs.Arrays.{Turn, Layer, layer-left, layer-right, layers-above, layers-child, Grown, row-leaves}

-- ---- algorithm 14

unfoldable child : (ℕ → List ℕ → List ℕ) → ℕ → ℕ → List ℕ → List ℕ → List ℕ
child f j zero s old = f j s
child f j (suc c) s old = xor_b (f j s) s

layer-2 : Layer 1 2
layer-2 = record { low = lit≤ tt; high = lit< tt }

layer-3 : Layer 1 3
layer-3 = record { low = lit≤ tt; high = lit< tt }

module _ (f : ℕ → List ℕ → List ℕ) where
  derive-here : (j k c : ℕ) (node : ℕ → List ℕ) → c < 2 → derive_node f j k node (2 * k + c) ≡ child f j c (node k) (node (2 * k + c))
  unfolding derive_node child
  derive-here j k zero node h = pair-even k (f j (node k)) (xor_b (f j (node k)) (node k)) node
  derive-here j k (suc zero) node h = pair-odd k (f j (node k)) (xor_b (f j (node k)) (node k)) node
  derive-here j k (suc (suc c)) node h = absurd (omega arith)

  derive-other : (j k m : ℕ) (node : ℕ → List ℕ) → (m ≡ 2 * k → ⊥) → (m ≡ 2 * k + 1 → ⊥) → derive_node f j k node m ≡ node m
  unfolding derive_node
  derive-other j k m node p q = pair-other k (f j (node k)) (xor_b (f j (node k)) (node k)) node m p q

  turn : (j : ℕ) → Turn (child f j) (derive_node f j)
  turn j = record { here = derive-here j; other = derive-other j }

  module _ (d : ℕ) (r δ : List ℕ) where
    first : ℕ → List ℕ
    first = put 3 (xor_b r δ) (put 2 r (λ k. []))

    -- node[3] and node[2] stay
    node-3 : ggm_nodes f (suc d) r δ 3 ≡ xor_b r δ
    unfolding ggm_nodes first
    node-3 =
        layers-above (child f) (derive_node f) turn 1 (suc d - 1) 3 first (lit< tt) ∙ put_same 3 (xor_b r δ) (put 2 r (λ k. []))

    node-2 : ggm_nodes f (suc d) r δ 2 ≡ r
    unfolding ggm_nodes first
    node-2 =
        layers-above (child f) (derive_node f) turn 1 (suc d - 1) 2 first (lit< tt)
        ∙ put_other 3 (xor_b r δ) (put 2 r (λ k. [])) 2 (λ e. omega arith)
        ∙ put_same 2 r (λ k. [])

    node-child : (j k c : ℕ) → c < 2 → 0 < j → j < suc d → Layer j k
        → ggm_nodes f (suc d) r δ (2 * k + c) ≡ child f j c (ggm_nodes f (suc d) r δ k) (first (2 * k + c))
    unfolding ggm_nodes first
    node-child j k c hc pos lt lay =
        layers-child (child f) (derive_node f) turn 1 (suc d - 1) j k c first hc (omega arith) (omega arith) lay

    grown : Grown f (suc d) (λ k s. ggm_nodes f (suc d) r δ k ≡ s)
    unfolding child
    grown =
        record {
          left =
              λ j k s pos lt lay e.
              ap (ggm_nodes f (suc d) r δ) (sym (add-zero (2 * k))) ∙ node-child j k 0 (lit< tt) pos lt lay ∙ ap (f j) e;
          right = λ j k s pos lt lay e. node-child j k 1 (lit< tt) pos lt lay ∙ ap (λ (x : List ℕ). xor_b (f j x) x) e;
        }

    -- algorithm 14
    pub expand-layers : ggm_expand f (suc d) r δ ≡ tree_of f d r δ
    unfolding ggm_expand tree_of
    expand-layers =
        let node = ggm_nodes f (suc d) r δ in
        let below = row-leaves f (suc d) (λ k s. node k ≡ s) grown node (λ k s e. e) d 1 in
        ap (λ (x : ℕ). row x (2 ^ suc d) node) (sym (one-mul (2 ^ suc d)))
        ∙ row-halves 1 d node
        ∙ ap₂ ◌++◌ (below 2 r (lit< tt) (omega arith) layer-2 node-2) (below 3 (xor_b r δ) (lit< tt) (omega arith) layer-3 node-3)

-- ---- algorithm 15

-- the last turn is at the layer below the node
siblings-last : (n : ℕ) (node : ℕ → List ℕ) (i : ℕ) → siblings (suc n) node i ≡ siblings n node i ++ (node ((i / 2 ^ n) ⊕ 1) ∷ [])
unfolding siblings
siblings-last zero node i = ap (λ (x : ℕ). node (x ⊕ 1) ∷ []) (sym (div-one i))
siblings-last (suc n) node i =
    ap (λ (l : List (List ℕ)). node (i ⊕ 1) ∷ l)
    (siblings-last n node (i / 2)
    ∙ ap (λ (x : ℕ). siblings n node (i / 2) ++ (node (x ⊕ 1) ∷ [])) (shr-shr i 1 n ∙ ap (λ (x : ℕ). i / 2 ^ x) more))
  where
    more : 1 + n ≡ suc n
    more = omega arith

module _ (f : ℕ → List ℕ → List ℕ) (node : ℕ → List ℕ) where
  -- one node: given that the paths below its children are found, so is the one below it
  siblings-node : (d j k i : ℕ) (l r : List ℕ) → node (2 * k) ≡ l → node (2 * k + 1) ≡ r → i < 2 ^ suc d
      → ((m : ℕ) → m < 2 ^ d → siblings d node (2 * k * 2 ^ d + m) ≡ path_of f d j m l)
      → ((m : ℕ) → m < 2 ^ d → siblings d node ((2 * k + 1) * 2 ^ d + m) ≡ path_of f d j m r)
      → siblings (suc d) node (k * 2 ^ suc d + i)
      ≡ cond (ltb i (2 ^ d)) (path_of f d j i l ++ (r ∷ [])) (path_of f d j (i - 2 ^ d) r ++ (l ∷ []))
  siblings-node d j k i l r el er lt ihl ihr =
      let n : 2 ^ suc d ≡ 2 ^ d * 2 = pow-suc 2 d in
      siblings-last d node (k * 2 ^ suc d + i)
      ∙ ⊎_elim
      (λ (z : 2 ^ d - i ≡ 0).
      rw (le-ltb i (2 ^ d) (omega arith), above-right k d i lt (omega arith), leaf-right k d i (omega arith), sibling-odd, el)
      (ap (λ (a : List (List ℕ)). a ++ (l ∷ [])) (ihr (i - 2 ^ d) (omega arith))))
      (λ (z : 0 < 2 ^ d - i).
      rw (lt-ltb i (2 ^ d) (omega arith), above-left k d i (omega arith), leaf-left k d i, sibling-even, er)
      (ap (λ (a : List (List ℕ)). a ++ (r ∷ [])) (ihl i (omega arith))))
      (eq-zero-or-pos (2 ^ d - i))

  module _ (D : ℕ) (grown : Grown f D (λ k s. node k ≡ s)) where
    siblings-path : (d j k i : ℕ) (s : List ℕ) → 0 < j → j + d ≡ D → Layer j k → node k ≡ s → i < 2 ^ d
        → siblings d node (k * 2 ^ d + i) ≡ path_of f d j i s
    unfolding siblings path_of
    siblings-path zero j k i s pos e lay h lt = refl
    siblings-path (suc d) j k i s pos e lay h lt =
        let hl = grown.left j k s pos (omega arith) lay h in
        let hr = grown.right j k s pos (omega arith) lay h in
        siblings-node d (j + 1) k i (left_of f j s) (right_of f j s) hl hr lt
        (λ m hm. siblings-path d (j + 1) (2 * k) m (left_of f j s) (omega arith) (omega arith) (layer-left j k lay) hl hm)
        (λ m hm. siblings-path d (j + 1) (2 * k + 1) m (right_of f j s) (omega arith) (omega arith) (layer-right j k lay) hr hm)

pub open-layers : (f : ℕ → List ℕ → List ℕ) (d i : ℕ) (r δ : List ℕ) → i < 2 ^ suc d
    → ggm_open (suc d) (ggm_nodes f (suc d) r δ) i ≡ tree_path_of f d i r δ
unfolding ggm_open tree_path_of
open-layers f d i r δ lt =
    let node = ggm_nodes f (suc d) r δ in
    let below = siblings-path f node (suc d) (grown f d r δ) d 1 in
    ap (λ (x : ℕ). siblings (suc d) node (x + i)) (sym (one-mul (2 ^ suc d)))
    ∙ siblings-node f node d 1 1 i r (xor_b r δ) (node-2 f d r δ) (node-3 f d r δ) lt
    (λ m hm. below 2 m r (lit< tt) (omega arith) layer-2 (node-2 f d r δ) hm)
    (λ m hm. below 3 m (xor_b r δ) (lit< tt) (omega arith) layer-3 (node-3 f d r δ) hm)
