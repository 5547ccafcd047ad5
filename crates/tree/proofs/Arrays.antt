-- Arrays of nodes that are filled layer by layer, as algorithms 14 and 16 do it: what a place holds in the end. Assumes nothing.
use mathlib.Core.Path.{◌≡◌, refl, sym, ap, ap₂, subst, ◌∙◌}
use mathlib.Core.Logic.{⊎_elim}
use mathlib.Core.Bool.{Bool, cond}
use mathlib.Core.List.{List, [], ◌∷◌, ◌++◌}
use Prim.Native.Nat.{ℕ, zero, suc, ◌+◌, ◌*◌, ◌^◌, ◌<◌, ◌≤◌}
use native.Mathlib.Nat.{add-zero, pow-suc, eq-or-lt_of_le}
use native.Mathlib.Omega.{arith}
use lib.Pow.{pow_mono}
use borrow.Author.Tests.{eq-eqb, ne_eqb}
use Rattle.octets.specs.Xor.{xor_b}
use Rattle.tree.specs.Tree.{leaves_of, left_of, right_of}
use Rattle.tree.specs.Layers.{put, loop, row}
use Rattle.tree.proofs.Powers.{pow_more, pow-twice, pow-next}

-- ---- a place is written

module _ {A : Type 0} (k : ℕ) (s : A) (node : ℕ → A) where
  pub put_same : put k s node k ≡ s
  unfolding put
  put_same = ap (λ (t : Bool). cond t s (node k)) (eq-eqb k k refl)

  pub put_other : (m : ℕ) → (m ≡ k → ⊥) → put k s node m ≡ node m
  unfolding put
  put_other m h = ap (λ (t : Bool). cond t s (node m)) (ne_eqb m k h)

-- a node's two children are written
module _ {A : Type 0} (k : ℕ) (x y : A) (node : ℕ → A) where
  pub pair-even : put (2 * k + 1) y (put (2 * k) x node) (2 * k + 0) ≡ x
  pair-even =
      put_other (2 * k + 1) y (put (2 * k) x node) (2 * k + 0) (λ e. omega arith)
      ∙ ap (put (2 * k) x node) (add-zero (2 * k))
      ∙ put_same (2 * k) x node

  pub pair-odd : put (2 * k + 1) y (put (2 * k) x node) (2 * k + 1) ≡ y
  pair-odd = put_same (2 * k + 1) y (put (2 * k) x node)

  pub pair-other : (m : ℕ) → (m ≡ 2 * k → ⊥) → (m ≡ 2 * k + 1 → ⊥) → put (2 * k + 1) y (put (2 * k) x node) m ≡ node m
  pair-other m p q = put_other (2 * k + 1) y (put (2 * k) x node) m q ∙ put_other (2 * k) x node m p

-- ---- a row is read

pub row-append : (a n m : ℕ) (node : ℕ → List ℕ) → row a (n + m) node ≡ row a n node ++ row (a + n) m node
unfolding row
row-append a zero m node = ap₂ (λ (x y : ℕ). row x y node) here none
  where
    here : a ≡ a + 0
    here = omega arith

    none : 0 + m ≡ m
    none = omega arith
row-append a (suc n) m node =
    ap (λ (x : ℕ). row a x node) more
    ∙ ap (λ (l : List (List ℕ)). node a ∷ l)
    (row-append (a + 1) n m node ∙ ap (λ (x : ℕ). row (a + 1) n node ++ row x m node) (omega arith))
  where
    more : suc n + m ≡ suc (n + m)
    more = omega arith

-- the leaves below a node are those below its two children
pub row-halves : (k d : ℕ) (node : ℕ → List ℕ)
    → row (k * 2 ^ suc d) (2 ^ suc d) node ≡ row (2 * k * 2 ^ d) (2 ^ d) node ++ row ((2 * k + 1) * 2 ^ d) (2 ^ d) node
row-halves k d node =
    ap₂ (λ (x y : ℕ). row x y node) (pow-twice k d) both ∙ row-append (2 * k * 2 ^ d) (2 ^ d) (2 ^ d) node
    ∙ ap (λ (x : ℕ). row (2 * k * 2 ^ d) (2 ^ d) node ++ row x (2 ^ d) node) (sym (pow-next k d))
  where
    both : 2 ^ suc d ≡ 2 ^ d + 2 ^ d
    both = omega (arith, pow-suc 2 d)

-- ---- a layer is derived from the one above it

-- what a turn of the inner loop does at node k: it writes its children, node[2k] and node[2k+1], and nothing else
pub record Turn {A : Type 0} (child : ℕ → A → A → A) (body : ℕ → (ℕ → A) → ℕ → A) : Type 0 where
  pub here : (k c : ℕ) (node : ℕ → A) → c < 2 → body k node (2 * k + c) ≡ child c (node k) (node (2 * k + c))
  pub other : (k m : ℕ) (node : ℕ → A) → (m ≡ 2 * k → ⊥) → (m ≡ 2 * k + 1 → ⊥) → body k node m ≡ node m

module _ {A : Type 0} (child : ℕ → A → A → A) (body : ℕ → (ℕ → A) → ℕ → A) (turn : Turn child body) where
  inner-before : (a n m : ℕ) (node : ℕ → A) → m < 2 * a → loop a n body node m ≡ node m
  unfolding loop
  inner-before a zero m node h = refl
  inner-before a (suc n) m node h =
      inner-before (a + 1) n m (body a node) (omega arith) ∙ turn.other a m node (λ e. omega arith) (λ e. omega arith)

  inner-after : (a n m : ℕ) (node : ℕ → A) → 2 * (a + n) ≤ m → loop a n body node m ≡ node m
  unfolding loop
  inner-after a zero m node h = refl
  inner-after a (suc n) m node h =
      inner-after (a + 1) n m (body a node) (omega arith) ∙ turn.other a m node (λ e. omega arith) (λ e. omega arith)

  -- n ≤ a: no place that is read has been written before
  inner-child : (a n k c : ℕ) (node : ℕ → A) → c < 2 → n ≤ a → a ≤ k → k < a + n
      → loop a n body node (2 * k + c) ≡ child c (node k) (node (2 * k + c))
  unfolding loop
  inner-child a zero k c node hc h lo hi = absurd (omega arith)
  inner-child a (suc n) k c node hc h lo hi =
      ⊎_elim
      (λ (e : a ≡ k).
      subst (λ (x : ℕ). loop (a + 1) n body (body a node) (2 * x + c) ≡ child c (node x) (node (2 * x + c))) e
      (inner-before (a + 1) n (2 * a + c) (body a node) (omega arith) ∙ turn.here a c node hc))
      (λ (e : a < k).
      inner-child (a + 1) n k c (body a node) hc (omega arith) (omega arith) (omega arith)
      ∙ ap₂ (child c) (turn.other a k node (λ q. omega arith) (λ q. omega arith))
      (turn.other a (2 * k + c) node (λ q. omega arith) (λ q. omega arith)))
      (eq-or-lt_of_le {n = a} {m = k} lo)

-- ---- layer after layer

-- place k is in layer j
pub record Layer (j k : ℕ) : Type 0 where
  pub low : 2 ^ j ≤ k
  pub high : k < 2 * 2 ^ j

pub layer-left : (j k : ℕ) → Layer j k → Layer (j + 1) (2 * k)
layer-left j k lay = record { low = omega (arith, pow_more j); high = omega (arith, pow_more j) }

pub layer-right : (j k : ℕ) → Layer j k → Layer (j + 1) (2 * k + 1)
layer-right j k lay = record { low = omega (arith, pow_more j); high = omega (arith, pow_more j) }

module _ {A : Type 0} (child : ℕ → ℕ → A → A → A) (body : ℕ → ℕ → (ℕ → A) → ℕ → A) (turn : (j : ℕ) → Turn (child j) (body j)) where
  abbrev layers : ℕ → ℕ → (ℕ → A) → ℕ → A
  layers j n node = loop j n (λ j. loop (2 ^ j) (2 ^ j) (body j)) node

  -- layer j, from which the first is derived, and those above it stay
  pub layers-above : (j n m : ℕ) (node : ℕ → A) → m < 2 * 2 ^ j → layers j n node m ≡ node m
  unfolding loop
  layers-above j zero m node h = refl
  layers-above j (suc n) m node h =
      layers-above (j + 1) n m (loop (2 ^ j) (2 ^ j) (body j) node) (omega (arith, pow_more j))
      ∙ inner-before (child j) (body j) (turn j) (2 ^ j) (2 ^ j) m node h

  first-child : (j n k c : ℕ) (node : ℕ → A) → c < 2 → Layer j k
      → layers j (suc n) node (2 * k + c) ≡ child j c (layers j (suc n) node k) (node (2 * k + c))
  unfolding loop
  first-child j n k c node hc lay =
      layers-above (j + 1) n (2 * k + c) (loop (2 ^ j) (2 ^ j) (body j) node) (omega (arith, pow_more j))
      ∙ inner-child (child j) (body j) (turn j) (2 ^ j) (2 ^ j) k c node hc (omega arith) lay.low (omega arith)
      ∙ ap (λ (x : A). child j c x (node (2 * k + c))) (sym (layers-above j (suc n) k node lay.high))

  -- each node of layer q has given its children
  pub layers-child : (j n q k c : ℕ) (node : ℕ → A) → c < 2 → j ≤ q → q < j + n → Layer q k
      → layers j n node (2 * k + c) ≡ child q c (layers j n node k) (node (2 * k + c))
  unfolding loop
  layers-child j zero q k c node hc hq hn lay = absurd (omega arith)
  layers-child j (suc n) q k c node hc hq hn lay =
      ⊎_elim
      (λ (e : j ≡ q).
      subst (λ (x : ℕ). layers j (suc n) node (2 * k + c) ≡ child x c (layers j (suc n) node k) (node (2 * k + c))) e
      (first-child j n k c node hc (subst (λ (x : ℕ). Layer x k) (sym e) lay)))
      (λ (e : j < q).
      layers-child (j + 1) n q k c (loop (2 ^ j) (2 ^ j) (body j) node) hc (omega arith) (omega arith) lay
      ∙ ap (child q c (layers j (suc n) node k))
      (inner-after (child j) (body j) (turn j) (2 ^ j) (2 ^ j) (2 * k + c) node
      (omega (arith, pow_more j, pow_mono {i = j + 1} {j = q} (omega arith)))))
      (eq-or-lt_of_le {n = j} {m = q} hq)

-- ---- the leaves below a node

-- Has k s: node[k] is s. Each node of the layers from 1 up to, not including, D has given its children
pub record Grown (f : ℕ → List ℕ → List ℕ) (D : ℕ) (Has : ℕ → List ℕ → Type 0) : Type 0 where
  pub left : (j k : ℕ) (s : List ℕ) → 0 < j → j < D → Layer j k → Has k s → Has (2 * k) (f j s)
  pub right : (j k : ℕ) (s : List ℕ) → 0 < j → j < D → Layer j k → Has k s → Has (2 * k + 1) (xor_b (f j s) s)

module _ (f : ℕ → List ℕ → List ℕ) (D : ℕ) (Has : ℕ → List ℕ → Type 0) (grown : Grown f D Has) (read : ℕ → List ℕ)
    (reads : (k : ℕ) (s : List ℕ) → Has k s → read k ≡ s) where
  pub row-leaves : (d j k : ℕ) (s : List ℕ) → 0 < j → j + d ≡ D → Layer j k → Has k s
      → row (k * 2 ^ d) (2 ^ d) read ≡ leaves_of f d j s
  unfolding row leaves_of
  row-leaves zero j k s pos e lay h =
      ap (λ (x : List ℕ). x ∷ []) (ap read one ∙ reads k s h)
    where
      one : k * 1 ≡ k
      one = omega arith
  row-leaves (suc d) j k s pos e lay h =
      row-halves k d read
      ∙ ap₂ ◌++◌
      (row-leaves d (j + 1) (2 * k) (left_of f j s) (omega arith) (omega arith) (layer-left j k lay) (grown.left j k s pos (omega arith) lay h))
      (row-leaves d (j + 1) (2 * k + 1) (right_of f j s) (omega arith) (omega arith) (layer-right j k lay)
      (grown.right j k s pos (omega arith) lay h))
