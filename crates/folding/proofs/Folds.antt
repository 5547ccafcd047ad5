-- The loop of algorithm 13 in its buffer: what it starts with, and a turn. Assumes nothing.
use mathlib.Core.Path.{◌≡◌, refl, sym, ap, ap₂, subst, ◌∙◌}
use mathlib.Core.List.{List}
use mathlib.Core.Bool.{Bool, true, false, cond}
use Prim.Native.Nat.{ℕ, zero, suc, ◌+◌, ◌*◌, ◌<◌}
use native.Mathlib.Numerals.{add-one}
use native.Mathlib.Omega.{arith}
use lib.Dec.{eqb}
use borrow.Author.Tests.{eqb-true, eqb-false}
use lib.ListN.{replicate, get_or-replicate}
use Rattle.octets.specs.Lists.{vec}
use Rattle.octets.specs.Xor.{◌⊕◌}
use Rattle.field.specs.Vec.{skip}
use Rattle.field.proofs.Sum.{skip-same, skip-other}
use Rattle.algebra.specs.Folding.{Folded, position, turn, folded, hide}
use Rattle.folding.specs.Rows.{Folds, Added}

pub folds-start : (raw : ℕ → ℕ → ℕ) → Folds (replicate 504 0) raw 0
unfolding folded
folds-start raw =
    record {
      acc = λ b h. get_or-replicate 504 b 0 0 (omega arith);
      fd = λ j b hj h. get_or-replicate 504 (56 * (j + 1) + b) 0 0 (omega arith);
    }

pub folds-turn : (raw : ℕ → ℕ → ℕ) (n p : ℕ) (f r g : List ℕ) → p ≡ position 8 n → ((b : ℕ) → b < 56 → vec r b ≡ raw n b) → Folds f raw n → Added f r p g
    → Folds g raw (n + 1)
folds-turn raw n p f r g e tape F A = subst (λ (k : ℕ). Folds g raw k) (sym (add-one n)) (record { acc = acc-next; fd = fd-next })
  where
    acc-next : (b : ℕ) → b < 56 → vec g b ≡ (folded 8 raw (suc n)).acc b
    acc-next b h = unfold folded turn in A.acc b h ∙ ap₂ ◌⊕◌ (F.acc b h) (tape b h)

    fd-next : (j b : ℕ) → j < 8 → b < 56 → vec g (56 * (j + 1) + b) ≡ (folded 8 raw (suc n)).fd j b
    fd-next j b hj h = unfold folded turn in go (eqb j (position 8 n)) refl
      where
        go : (t : Bool) → eqb j (position 8 n) ≡ t
            → vec g (56 * (j + 1) + b) ≡ cond t ((folded 8 raw n).fd j b ⊕ ((folded 8 raw n).acc b ⊕ raw n b)) ((folded 8 raw n).fd j b)
        go true q =
            let same : j ≡ p = eqb-true j (position 8 n) q ∙ sym e in
            ap (λ (i : ℕ). vec g (56 * (i + 1) + b)) same
            ∙ A.fd b h
            ∙ ap₂ ◌⊕◌ (ap (λ (i : ℕ). vec f (56 * (i + 1) + b)) (sym same) ∙ F.fd j b hj h) (ap₂ ◌⊕◌ (F.acc b h) (tape b h))
        go false q = A.kept j b hj h (λ s. eqb-false j (position 8 n) q (s ∙ e)) ∙ F.fd j b hj h

-- ---- the hidden leaf's tape

pub hide-same : (i : ℕ) (raw : ℕ → ℕ → ℕ) (k b : ℕ) → k ≡ i → hide i raw k b ≡ 0
unfolding hide
hide-same i raw k b e = subst (λ (m : ℕ). hide i raw m b ≡ 0) (sym e) (skip-same i (λ k. raw k b))

pub hide-other : (i : ℕ) (raw : ℕ → ℕ → ℕ) (k b : ℕ) → (k ≡ i → ⊥) → hide i raw k b ≡ raw k b
unfolding hide
hide-other i raw k b ne = skip-other i (λ k. raw k b) k ne

-- ---- the loop depends on the first n tapes alone

pub folded_ext : (d : ℕ) (raw raw' : ℕ → ℕ → ℕ) (n : ℕ) → ((k : ℕ) → k < n → raw k ≡ raw' k) → folded d raw n ≡ folded d raw' n
unfolding folded
folded_ext d raw raw' zero h = refl
folded_ext d raw raw' (suc n) h =
    ap₂ (turn (position d n)) (h n (omega arith)) (folded_ext d raw raw' n (λ k hk. h k (omega arith)))

pub folds-ext : (f : List ℕ) (tape tape' : ℕ → List ℕ) (i n : ℕ) → ((k : ℕ) → k < n → tape k ≡ tape' k)
    → Folds f (hide i (λ k. vec (tape k))) n → Folds f (hide i (λ k. vec (tape' k))) n
folds-ext f tape tape' i n same F =
    record { acc = λ b h. F.acc b h ∙ ap (λ (v : Folded). v.acc b) alike; fd = λ j b hj h. F.fd j b hj h ∙ ap (λ (v : Folded). v.fd j b) alike }
  where
    masked : ℕ → List ℕ → ℕ → ℕ
    masked k l = λ b. cond (eqb k i) 0 (vec l b)

    hidden : (k : ℕ) → tape k ≡ tape' k → hide i (λ k. vec (tape k)) k ≡ hide i (λ k. vec (tape' k)) k
    hidden k e = unfold hide skip in ap (masked k) e

    alike : folded 8 (hide i (λ k. vec (tape k))) n ≡ folded 8 (hide i (λ k. vec (tape' k))) n
    alike = folded_ext 8 _ _ n (λ k h. hidden k (same k h))
