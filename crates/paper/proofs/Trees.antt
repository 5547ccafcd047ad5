-- The leaves of a tree add up to its offset, byte by byte. Assumes nothing.
use mathlib.Core.Path.{◌≡◌, sym, ap, ◌∙◌}
use mathlib.Core.List.{List, [], ◌∷◌}
use Prim.Native.Nat.{ℕ, zero, suc, ◌^◌, ◌<◌}
use native.Mathlib.Omega.{arith}
use lib.ListN.{length, get_or, get_or-replicate}
use Rattle.octets.specs.Xor.{◌⊕◌}
use Rattle.octets.specs.Lists.{vec}
use Rattle.octets.proofs.Xor.{⊕-assoc, ⊕-comm, vec-xor_b}
use Rattle.field.specs.Vec.{sum}
use Rattle.tree.specs.Tree.{tree_of, Keeps16, xor_all}
use Rattle.octets.proofs.Each.{Each, All16}
use Rattle.tree.proofs.Xor.{length-xor_all}
use Rattle.tree.proofs.Lengths.{all-tree, length-tree}
use Rattle.tree.proofs.Laws.{xor-tree}

pub sum-front : (n : ℕ) (f : ℕ → ℕ) → sum (suc n) f ≡ f 0 ⊕ sum n (λ i. f (suc i))
unfolding sum
sum-front zero f = ⊕-comm 0 (f 0)
sum-front (suc n) f = ap (λ (x : ℕ). x ⊕ f (suc n)) (sum-front n f) ∙ ⊕-assoc (f 0) (sum n (λ i. f (suc i))) (f (suc n))

-- the exclusive-or of seeds, byte by byte
pub xor_all-sum : (a : List (List ℕ)) → All16 a → (b : ℕ) → b < 16 → vec (xor_all a) b ≡ sum (length a) (λ k. vec (get_or a k []) b)
unfolding Each xor_all sum
xor_all-sum [] p b h = get_or-replicate 16 b 0 0 h
xor_all-sum (s ∷ a) p b h =
    vec-xor_b s (xor_all a) b (omega (arith, p.0)) (omega (arith, length-xor_all a p.1))
    ∙ ap (λ (x : ℕ). vec s b ⊕ x) (xor_all-sum a p.1 b h)
    ∙ sym (sum-front (length a) (λ k. vec (get_or (s ∷ a) k []) b))

module _ (f : ℕ → List ℕ → List ℕ) (keeps : Keeps16 f) (d : ℕ) (r δ : List ℕ) (hr : length r ≡ 16) (hd : length δ ≡ 16) where
  pub leaves-sum : (b : ℕ) → b < 16 → sum (2 ^ suc d) (λ k. vec (get_or (tree_of f d r δ) k []) b) ≡ vec δ b
  leaves-sum b h =
      ap (λ (n : ℕ). sum n (λ k. vec (get_or (tree_of f d r δ) k []) b)) (sym (length-tree f d r δ))
      ∙ sym (xor_all-sum (tree_of f d r δ) (all-tree f keeps d r δ hr hd) b h)
      ∙ ap (λ (l : List ℕ). vec l b) (xor-tree f keeps d r δ hr hd)
