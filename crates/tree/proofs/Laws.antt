-- The two laws of the tree, at every depth: the xor of the leaves is the offset, and a sibling path gives all leaves but the hidden one.
-- Assumes nothing.
use mathlib.Core.Path.{◌≡◌, refl, sym, ap, ap₂, ◌∙◌}
use mathlib.Core.Logic.{⊎_elim}
use mathlib.Core.Bool.{cond}
use mathlib.Core.List.{List, [], ◌∷◌, ◌++◌, append_assoc, append-nil}
use Prim.Native.Nat.{ℕ, zero, suc, ◌+◌, ◌-◌, ◌*◌, ◌^◌, ◌<◌}
use native.Mathlib.Nat.{pow-suc, eq-zero-or-pos}
use native.Mathlib.Omega.{arith}
use lib.Dec.{ltb}
use lib.ListN.{length, set}
use lib.Seq.{take_at, drop_at, set-append_left}
use borrow.Author.Tests.{lt-ltb, le-ltb}
use Rattle.octets.specs.Xor.{xor_b}
use Rattle.octets.specs.Lists.{flat, part, zero16}
use Rattle.octets.proofs.Xor.{length-xor_b, xor_b-undo}
use Rattle.octets.proofs.Part.{flat_append, flat-one}
use Rattle.tree.specs.Tree.{leaves_of, path_of, rebuild_of, tree_of, tree_path_of, left_of, right_of, Keeps16, xor_all}
use Rattle.octets.proofs.Each.{set_append_right}
use Rattle.tree.proofs.Xor.{xor_all-append, xor_all-one}
use Rattle.tree.proofs.Lengths.{length-leaves, length-path}

-- a path that ends in x, and more after it
grown : (p : List (List ℕ)) (x q : List ℕ) → flat (p ++ (x ∷ [])) ++ q ≡ flat p ++ (x ++ q)
grown p x q =
    ap (λ (y : List ℕ). y ++ q) (flat_append p (x ∷ []) ∙ ap (λ (y : List ℕ). flat p ++ y) (flat-one x)) ∙ append_assoc (flat p) x q

last-seed : (p : List (List ℕ)) (x q : List ℕ) (d : ℕ) → length (flat p) ≡ 16 * d → length x ≡ 16 → part (16 * d) 16 (flat p ++ (x ++ q)) ≡ x
unfolding part
last-seed p x q d hp hx = rw (drop_at (flat p) (x ++ q) (16 * d) hp) (take_at x q 16 hx)

module _ (f : ℕ → List ℕ → List ℕ) (keeps : Keeps16 f) where
  length-left : (j : ℕ) (s : List ℕ) → length s ≡ 16 → length (left_of f j s) ≡ 16
  unfolding Keeps16
  length-left j s h = keeps j s h

  length-right : (j : ℕ) (s : List ℕ) → length s ≡ 16 → length (right_of f j s) ≡ 16
  length-right j s h = length-xor_b 16 (f j s) s (length-left j s h) h

  -- ---- the correlated tree

  -- the xor of the leaves below a node is the node's seed
  pub xor-leaves : (d j : ℕ) (s : List ℕ) → length s ≡ 16 → xor_all (leaves_of f d j s) ≡ s
  unfolding leaves_of
  xor-leaves zero j s h = xor_all-one s h
  xor-leaves (suc d) j s h =
      let l = left_of f j s in
      let r = right_of f j s in
      let hl = length-left j s h in
      let hr = length-right j s h in
      let er = xor-leaves d (j + 1) r hr in
      xor_all-append (leaves_of f d (j + 1) l) (leaves_of f d (j + 1) r) (ap length er ∙ hr)
      ∙ ap₂ xor_b (xor-leaves d (j + 1) l hl) er
      ∙ xor_b-undo l s (hl ∙ sym h)

  -- of all N leaves it is the offset
  pub xor-tree : (d : ℕ) (r δ : List ℕ) → length r ≡ 16 → length δ ≡ 16 → xor_all (tree_of f d r δ) ≡ δ
  unfolding tree_of
  xor-tree d r δ hr hd =
      let e = xor-leaves d 1 (xor_b r δ) (length-xor_b 16 r δ hr hd) in
      xor_all-append (leaves_of f d 1 r) (leaves_of f d 1 (xor_b r δ)) (ap length e ∙ length-xor_b 16 r δ hr hd)
      ∙ ap₂ xor_b (xor-leaves d 1 r hr) e
      ∙ xor_b-undo r δ (hr ∙ sym hd)

  -- ---- a path opens all leaves but one

  -- one node: given that its halves can be rebuilt, so can the whole
  rebuild-node : (d j i : ℕ) (l r q : List ℕ) → length l ≡ 16 → length r ≡ 16 → i < 2 ^ suc d
      → ((k : ℕ) (s p : List ℕ) → length s ≡ 16 → k < 2 ^ d
      → rebuild_of f d (j + 1) k (flat (path_of f d (j + 1) k s) ++ p) ≡ set (leaves_of f d (j + 1) s) k zero16)
      → rebuild_of f (suc d) j i
      (flat (cond (ltb i (2 ^ d)) (path_of f d (j + 1) i l ++ (r ∷ [])) (path_of f d (j + 1) (i - 2 ^ d) r ++ (l ∷ []))) ++ q)
      ≡ set (leaves_of f d (j + 1) l ++ leaves_of f d (j + 1) r) i zero16
  unfolding rebuild_of
  rebuild-node d j i l r q hl hr lt ih =
      let n : 2 ^ suc d ≡ 2 ^ d * 2 = pow-suc 2 d in
      ⊎_elim
      (λ (e : 2 ^ d - i ≡ 0).
      let k = i - 2 ^ d in
      let p = path_of f d (j + 1) k r in
      let hp = length-path f keeps d (j + 1) k r hr in
      rw (le-ltb i (2 ^ d) (omega arith), grown p l q, last-seed p l q d hp hl, ih k r (l ++ q) hr (omega arith))
      (sym (set_append_right (leaves_of f d (j + 1) l) (leaves_of f d (j + 1) r) i (2 ^ d) zero16 (length-leaves f d (j + 1) l) (omega arith))))
      (λ (e : 0 < 2 ^ d - i).
      let p = path_of f d (j + 1) i l in
      let hp = length-path f keeps d (j + 1) i l hl in
      rw (lt-ltb i (2 ^ d) (omega arith), grown p r q, last-seed p r q d hp hr, ih i l (r ++ q) hl (omega arith))
      (sym (set-append_left (leaves_of f d (j + 1) l) (leaves_of f d (j + 1) r) i zero16 (omega (arith, length-leaves f d (j + 1) l)))))
      (eq-zero-or-pos (2 ^ d - i))

  -- the checker, from the signer's path with anything after it, has the signer's leaves with zeros at the hidden one
  pub rebuild-leaves : (d j i : ℕ) (s q : List ℕ) → length s ≡ 16 → i < 2 ^ d
      → rebuild_of f d j i (flat (path_of f d j i s) ++ q) ≡ set (leaves_of f d j s) i zero16
  unfolding leaves_of path_of rebuild_of
  rebuild-leaves zero j zero s q h lt = refl
  rebuild-leaves zero j (suc i) s q h lt = absurd (omega arith)
  rebuild-leaves (suc d) j i s q h lt =
      rebuild-node d j i (left_of f j s) (right_of f j s) q (length-left j s h) (length-right j s h) lt
      (λ k s' p h' lt'. rebuild-leaves d (j + 1) k s' p h' lt')

  -- with nothing after it
  pub rebuild-leaves-all : (d j i : ℕ) (s : List ℕ) → length s ≡ 16 → i < 2 ^ d
      → rebuild_of f d j i (flat (path_of f d j i s)) ≡ set (leaves_of f d j s) i zero16
  rebuild-leaves-all d j i s h lt =
      ap (rebuild_of f d j i) (sym (append-nil (flat (path_of f d j i s)))) ∙ rebuild-leaves d j i s [] h lt

  -- the same of the whole tree
  pub rebuild-tree : (d i : ℕ) (r δ q : List ℕ) → length r ≡ 16 → length δ ≡ 16 → i < 2 ^ suc d
      → rebuild_of f (suc d) 0 i (flat (tree_path_of f d i r δ) ++ q) ≡ set (tree_of f d r δ) i zero16
  unfolding tree_of tree_path_of
  rebuild-tree d i r δ q hr hd lt =
      rebuild-node d 0 i r (xor_b r δ) q hr (length-xor_b 16 r δ hr hd) lt (λ k s p h l. rebuild-leaves d 1 k s p h l)

  pub rebuild-tree-all : (d i : ℕ) (r δ : List ℕ) → length r ≡ 16 → length δ ≡ 16 → i < 2 ^ suc d
      → rebuild_of f (suc d) 0 i (flat (tree_path_of f d i r δ)) ≡ set (tree_of f d r δ) i zero16
  rebuild-tree-all d i r δ hr hd lt =
      ap (rebuild_of f (suc d) 0 i) (sym (append-nil (flat (tree_path_of f d i r δ)))) ∙ rebuild-tree d i r δ [] hr hd lt
