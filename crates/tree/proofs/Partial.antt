-- Algorithm 16 as it stands gives the rebuilding by halves, whatever bytes the path has. Assumes nothing.
use mathlib.Core.Path.{◌≡◌, refl, sym, ap, ap₂, subst, ◌∙◌}
use mathlib.Core.Logic.{⊎_elim}
use mathlib.Core.List.{List, [], ◌∷◌, ◌++◌}
use mathlib.Core.Option.{Option, none, some, get_or}
use Prim.Native.Nat.{ℕ, zero, suc, ◌+◌, ◌-◌, ◌*◌, ◌/◌, ◌^◌, ◌<◌, ◌≤◌}
use native.Mathlib.Nat.{pow-suc, eq-zero-or-pos, div-one, one-mul, mul-one, add-zero, zero-add}
use native.Mathlib.Omega.{arith}
use lib.Dec.{lit<, lit≤}
use lib.Pow.{pow_pos, high, shr-shr, shr_le}
use borrow.Author.Tests.{lt-ltb, le-ltb}
use Rattle.octets.specs.Xor.{◌⊕◌, xor_b}
use Rattle.octets.specs.Lists.{part, zero16}
use Rattle.tree.specs.Tree.{rebuild_of}
use Rattle.tree.specs.Layers.{row, assign, derive_given, ggm_partial_nodes, ggm_partially_expand}
use Rattle.tree.proofs.Sibling.{sibling-even, sibling-odd, sibling-low, sibling-high, sibling-apart}
use Rattle.tree.proofs.Sibling.{leaf-left, leaf-right, above-left, above-right}
use Rattle.tree.proofs.Arrays.{put_same, put_other, pair-even, pair-odd, pair-other, row-halves}
use Rattle.tree.proofs.Arrays.{Turn, Layer, layer-left, layer-right, layers-above, layers-child, Grown, row-leaves}

-- ---- lines 3 to 5

-- the turns go up, to ever lower places
assign-high : (n j i : ℕ) (p : List ℕ) (node : ℕ → Option (List ℕ)) (m : ℕ) → i + 1 < m → assign n j i p node m ≡ node m
unfolding assign
assign-high zero j i p node m h = refl
assign-high (suc n) j i p node m h =
    assign-high n (j + 1) (i / 2) p _ m (omega arith)
    ∙ put_other (i ⊕ 1) _ node m (λ e. omega (arith, sibling-high i))

-- so that a layer stays as its own turn leaves it
assign-stays : (n j i : ℕ) (p : List ℕ) (node : ℕ → Option (List ℕ)) (m : ℕ) → 2 ^ suc n ≤ i → 2 * (i / 2) ≤ m
    → assign n j (i / 2) p node m ≡ node m
unfolding assign
assign-stays zero j i p node m h l = refl
assign-stays (suc n) j i p node m h l = assign-high (suc n) j (i / 2) p node m (omega (arith, pow-suc 2 (suc n), pow-suc 2 n, pow_pos n))

half-deep : (n i : ℕ) → 2 ^ suc n ≤ i → 2 ^ n ≤ i / 2
half-deep n i h = omega (arith, pow-suc 2 n)

deeper : (i t : ℕ) → i / 2 / 2 ^ t ≡ i / 2 ^ suc t
deeper i t = shr-shr i 1 t ∙ ap (λ (x : ℕ). i / 2 ^ x) more
  where
    more : 1 + t ≡ suc t
    more = omega arith

-- path[j + t] at the sibling of the hidden node of layer t, counted from the leaves
assign-path : (n j i : ℕ) (p : List ℕ) (node : ℕ → Option (List ℕ)) (t : ℕ) → 2 ^ n ≤ i → t < n
    → assign n j i p node ((i / 2 ^ t) ⊕ 1) ≡ some (part (16 * (j + t)) 16 p)
unfolding assign
assign-path zero j i p node t h lt = absurd (omega arith)
assign-path (suc n) j i p node zero h lt =
    ap (assign n (j + 1) (i / 2) p _) (ap (λ (x : ℕ). x ⊕ 1) (div-one i))
    ∙ assign-stays n (j + 1) i p _ (i ⊕ 1) h (sibling-low i)
    ∙ put_same (i ⊕ 1) _ node
    ∙ ap (λ (x : ℕ). some (part (16 * x) 16 p)) (sym (add-zero j))
assign-path (suc n) j i p node (suc t) h lt =
    ap (assign n (j + 1) (i / 2) p _) (ap (λ (x : ℕ). x ⊕ 1) (sym (deeper i t)))
    ∙ assign-path n (j + 1) (i / 2) p _ t (half-deep n i h) (omega arith)
    ∙ ap (λ (x : ℕ). some (part (16 * x) 16 p)) more
  where
    more : j + 1 + t ≡ j + suc t
    more = omega arith

-- nothing at the hidden nodes
assign-hidden : (n j i : ℕ) (p : List ℕ) (node : ℕ → Option (List ℕ)) (t : ℕ) → 2 ^ n ≤ i → t ≤ n
    → assign n j i p node (i / 2 ^ t) ≡ node (i / 2 ^ t)
unfolding assign
assign-hidden zero j i p node t h le = refl
assign-hidden (suc n) j i p node zero h le =
    ap (assign n (j + 1) (i / 2) p _) (div-one i)
    ∙ assign-stays n (j + 1) i p _ i h (omega arith)
    ∙ put_other (i ⊕ 1) _ node i (λ e. sibling-apart i (sym e))
    ∙ ap node (sym (div-one i))
assign-hidden (suc n) j i p node (suc t) h le =
    ap (assign n (j + 1) (i / 2) p _) (sym (deeper i t))
    ∙ assign-hidden n (j + 1) (i / 2) p _ t (half-deep n i h) (omega arith)
    ∙ put_other (i ⊕ 1) _ node (i / 2 / 2 ^ t)
    (λ e. omega (arith, sibling-low i, shr_le (i / 2) t, half-deep n i h, pow_pos n))
    ∙ ap node (deeper i t)

-- ---- lines 6 to 11

unfoldable child : (ℕ → List ℕ → List ℕ) → ℕ → ℕ → Option (List ℕ) → Option (List ℕ) → Option (List ℕ)
child f j c none old = old
child f j zero (some s) old = some (f j s)
child f j (suc c) (some s) old = some (xor_b (f j s) s)

module _ (f : ℕ → List ℕ → List ℕ) where
  given-here : (j k c : ℕ) (o : Option (List ℕ)) (node : ℕ → Option (List ℕ)) → c < 2
      → derive_given f j k o node (2 * k + c) ≡ child f j c o (node (2 * k + c))
  unfolding derive_given child
  given-here j k zero none node h = refl
  given-here j k (suc c) none node h = refl
  given-here j k zero (some s) node h = pair-even k (some (f j s)) (some (xor_b (f j s) s)) node
  given-here j k (suc zero) (some s) node h = pair-odd k (some (f j s)) (some (xor_b (f j s) s)) node
  given-here j k (suc (suc c)) (some s) node h = absurd (omega arith)

  given-other : (j k m : ℕ) (o : Option (List ℕ)) (node : ℕ → Option (List ℕ)) → (m ≡ 2 * k → ⊥) → (m ≡ 2 * k + 1 → ⊥)
      → derive_given f j k o node m ≡ node m
  unfolding derive_given
  given-other j k m none node p q = refl
  given-other j k m (some s) node p q = pair-other k (some (f j s)) (some (xor_b (f j s) s)) node m p q

  turn : (j : ℕ) → Turn (child f j) (λ k node. derive_given f j k (node k) node)
  turn j =
      record {
        here = λ k c node h. given-here j k c (node k) node h;
        other = λ k m node p q. given-other j k m (node k) node p q;
      }

  module _ (D : ℕ) (p : List ℕ) (hidden : ℕ) (lt : hidden < 2 ^ D) where
    start : ℕ → Option (List ℕ)
    start = assign D 0 (2 ^ D + hidden) p (λ k. none)

    nodes : ℕ → Option (List ℕ)
    nodes = ggm_partial_nodes f D p hidden

    nodes-above : (m : ℕ) → m < 4 → nodes m ≡ start m
    unfolding ggm_partial_nodes nodes start
    nodes-above m h = layers-above (child f) (λ j k node. derive_given f j k (node k) node) turn 1 (D - 1) m start h

    nodes-child : (j k c : ℕ) → c < 2 → 0 < j → j < D → Layer j k
        → nodes (2 * k + c) ≡ child f j c (nodes k) (start (2 * k + c))
    unfolding ggm_partial_nodes nodes start
    nodes-child j k c hc pos hj lay =
        layers-child (child f) (λ j k node. derive_given f j k (node k) node) turn 1 (D - 1) j k c start hc (omega arith) (omega arith) lay

    -- a node that is there gives its children
    grown : Grown f D (λ k s. nodes k ≡ some s)
    unfolding child
    grown =
        record {
          left =
              λ j k s pos hj lay e.
              ap nodes (sym (add-zero (2 * k))) ∙ nodes-child j k 0 (lit< tt) pos hj lay
              ∙ ap (λ (o : Option (List ℕ)). child f j 0 o (start (2 * k + 0))) e;
          right =
              λ j k s pos hj lay e.
              nodes-child j k 1 (lit< tt) pos hj lay ∙ ap (λ (o : Option (List ℕ)). child f j 1 o (start (2 * k + 1))) e;
        }

    -- one that is not leaves its children as they were
    quiet : (j k c : ℕ) → c < 2 → j < D → Layer j k → nodes k ≡ none → nodes (2 * k + c) ≡ start (2 * k + c)
    unfolding child
    quiet zero k c hc hj lay e = nodes-above (2 * k + c) (omega arith)
    quiet (suc j) k c hc hj lay e =
        nodes-child (suc j) k c hc (omega arith) hj lay ∙ ap (λ (o : Option (List ℕ)). child f (suc j) c o (start (2 * k + c))) e

    -- ---- lines 12 to 14

    -- the place of the hidden leaf, and what lines 1 to 5 leave above it
    leaf : ℕ
    leaf = 2 ^ D + hidden

    start-path : (t : ℕ) → t < D → start ((leaf / 2 ^ t) ⊕ 1) ≡ some (part (16 * t) 16 p)
    unfolding start leaf
    start-path t h =
        assign-path D 0 (2 ^ D + hidden) p (λ k. none) t (omega arith) h ∙ ap (λ (x : ℕ). some (part (16 * x) 16 p)) (zero-add t)

    start-hidden : (t : ℕ) → t ≤ D → start (leaf / 2 ^ t) ≡ none
    unfolding start leaf
    start-hidden t h = assign-hidden D 0 (2 ^ D + hidden) p (λ k. none) t (omega arith) h

    read : ℕ → List ℕ
    read k = get_or (nodes k) zero16

    reads : (k : ℕ) (s : List ℕ) → nodes k ≡ some s → read k ≡ s
    unfolding read
    reads k s e = ap (λ (o : Option (List ℕ)). get_or o zero16) e

    -- below a hidden node of layer j
    row-hidden : (d j k i : ℕ) → j + d ≡ D → Layer j k → leaf ≡ k * 2 ^ d + i → i < 2 ^ d → nodes k ≡ none
        → row (k * 2 ^ d) (2 ^ d) read ≡ rebuild_of f d j i p
    unfolding row rebuild_of
    row-hidden zero j k i e lay is h z = ap (λ (x : List ℕ). x ∷ []) (ap read (mul-one k) ∙ unread k z)
      where
        unread : (k : ℕ) → nodes k ≡ none → read k ≡ zero16
        unread k z = unfold read in ap (λ (o : Option (List ℕ)). get_or o zero16) z
    row-hidden (suc d) j k i e lay is h z =
        let n : 2 ^ suc d ≡ 2 ^ d * 2 = pow-suc 2 d in
        let below = row-leaves f D (λ k s. nodes k ≡ some s) grown read reads d (j + 1) in
        let even : nodes (2 * k) ≡ start (2 * k) =
        subst (λ (x : ℕ). nodes x ≡ start x) (add-zero (2 * k)) (quiet j k 0 (lit< tt) (omega arith) lay z) in
        let odd : nodes (2 * k + 1) ≡ start (2 * k + 1) = quiet j k 1 (lit< tt) (omega arith) lay z in
        row-halves k d read
        ∙ ⊎_elim
        (λ (q : 2 ^ d - i ≡ 0).
        let up : leaf / 2 ^ d ≡ 2 * k + 1 = ap (λ (x : ℕ). x / 2 ^ d) is ∙ above-right k d i h (omega arith) in
        let way : nodes (2 * k + 1) ≡ none = odd ∙ ap start (sym up) ∙ start-hidden d (omega arith) in
        let sent : nodes (2 * k) ≡ some (part (16 * d) 16 p) =
        even ∙ ap start (sym (ap (λ (x : ℕ). x ⊕ 1) up ∙ sibling-odd k)) ∙ start-path d (omega arith) in
        rw (le-ltb i (2 ^ d) (omega arith))
        (ap₂ ◌++◌ (below (2 * k) (part (16 * d) 16 p) (omega arith) (omega arith) (layer-left j k lay) sent)
        (row-hidden d (j + 1) (2 * k + 1) (i - 2 ^ d) (omega arith) (layer-right j k lay) (is ∙ leaf-right k d i (omega arith)) (omega arith) way)))
        (λ (q : 0 < 2 ^ d - i).
        let up : leaf / 2 ^ d ≡ 2 * k = ap (λ (x : ℕ). x / 2 ^ d) is ∙ above-left k d i (omega arith) in
        let way : nodes (2 * k) ≡ none = even ∙ ap start (sym up) ∙ start-hidden d (omega arith) in
        let sent : nodes (2 * k + 1) ≡ some (part (16 * d) 16 p) =
        odd ∙ ap start (sym (ap (λ (x : ℕ). x ⊕ 1) up ∙ sibling-even k)) ∙ start-path d (omega arith) in
        rw (lt-ltb i (2 ^ d) (omega arith))
        (ap₂ ◌++◌ (row-hidden d (j + 1) (2 * k) i (omega arith) (layer-left j k lay) (is ∙ leaf-left k d i) (omega arith) way)
        (below (2 * k + 1) (part (16 * d) 16 p) (omega arith) (omega arith) (layer-right j k lay) sent)))
        (eq-zero-or-pos (2 ^ d - i))

    -- algorithm 16
    pub partially-expand-layers : ggm_partially_expand f D p hidden ≡ rebuild_of f D 0 hidden p
    unfolding ggm_partially_expand read nodes leaf
    partially-expand-layers =
        let up : leaf / 2 ^ D ≡ 1 = ap (λ (x : ℕ). (x + hidden) / 2 ^ D) (sym (one-mul (2 ^ D))) ∙ high 1 D lt in
        ap (λ (x : ℕ). row x (2 ^ D) read) (sym (one-mul (2 ^ D)))
        ∙ row-hidden D 0 1 hidden (zero-add D) (record { low = lit≤ tt; high = lit< tt }) (ap (λ (x : ℕ). x + hidden) (sym (one-mul (2 ^ D)))) lt
        (nodes-above 1 (lit< tt) ∙ ap start (sym up) ∙ start-hidden D (omega arith))
