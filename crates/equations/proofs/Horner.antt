-- `folded`, as a loop makes it, and of a sum of lists. Assumes nothing.
use mathlib.Core.Path.{◌≡◌, refl, sym, ap, ap₂, ◌∙◌}
use mathlib.Core.List.{List}
use Prim.Native.Nat.{ℕ, zero, suc, ◌+◌, ◌*◌, ◌-◌, ◌<◌, ◌≤◌}
use native.Mathlib.Nat.{add-zero, zero-add}
use native.Mathlib.Numerals.{add-one}
use native.Mathlib.Omega.{arith}
use lib.ListN.{length}
use Rattle.octets.specs.Xor.{◌⊕◌}
use Rattle.octets.specs.Lists.{vec, tab}
use Rattle.octets.proofs.Xor.{⊕-comm}
use Rattle.octets.proofs.Tab.{is-tab, tab-ext, vec-tab}
use Rattle.field.specs.Gf.{times_root}
use Rattle.field.specs.Vec.{sum}
use Rattle.field.proofs.Product.{root-⊕}
use Rattle.field.proofs.Sum.{sum-ext, sum-map, sum-⊕, sum-swap}
use Rattle.paper.proofs.Trees.{sum-front}
use Rattle.equations.specs.Lanes.{times_power, folded}
use Rattle.equations.proofs.Digits.{power-⊕}
use Rattle.equations.proofs.Rows.{sofar, vec-sofar}

-- ---- a loop

-- Horner's rule, from digit b on
unfoldable pub fold_from : ℕ → ℕ → (ℕ → ℕ) → ℕ
fold_from zero b f = 0
fold_from (suc n) b f = times_root 7 0x1b (fold_from n (suc b) f) ⊕ f b

fold_from-suc : (n b : ℕ) (f : ℕ → ℕ) → times_root 7 0x1b (fold_from n (suc b) f) ⊕ f b ≡ fold_from (suc n) b f
unfolding fold_from
fold_from-suc n b f = refl

fold_from-sum : (n b : ℕ) (f : ℕ → ℕ) → fold_from n b f ≡ sum n (λ i. times_power i (f (b + i)))
unfolding fold_from sum times_power
fold_from-sum zero b f = refl
fold_from-sum (suc n) b f =
    ⊕-comm (times_root 7 0x1b (fold_from n (suc b) f)) (f b)
    ∙ ap₂ ◌⊕◌ (ap f (sym (add-zero b)))
    (ap (times_root 7 0x1b) (fold_from-sum n (suc b) f) ∙ sum-map (times_root 7 0x1b) (root-⊕ 7 0x1b) n (λ i. times_power i (f (suc b + i)))
    ∙ sum-ext n _ _ (λ i h. ap (λ (x : ℕ). times_root 7 0x1b (times_power i (f x))) (next i)))
    ∙ sym (sum-front n (λ i. times_power i (f (b + i))))
  where
    next : (i : ℕ) → suc b + i ≡ b + suc i
    next i = omega arith

abbrev pub folded_from : ℕ → List ℕ → ℕ → ℕ
folded_from b a l = fold_from (8 - b) b (λ i. vec a (24 * i + l))

pub fold_start : (z a : List ℕ) → ((l : ℕ) → l < 24 → vec z l ≡ 0) → length z ≡ 24 → z ≡ tab 24 (folded_from 8 a)
unfolding fold_from
fold_start z a h e = is-tab 24 _ z e h

pub fold-turn : (a r s : List ℕ) (b n : ℕ) → b ≡ n + 1 → b ≤ 8 → r ≡ tab 24 (folded_from b a)
    → s ≡ tab 24 (λ l. times_root 7 0x1b (vec r l) ⊕ vec a (24 * n + l)) → s ≡ tab 24 (folded_from n a)
fold-turn a r s b n e h p q =
    q
    ∙ tab-ext 24 _ _
    (λ l hl.
    ap (λ (x : ℕ). times_root 7 0x1b x ⊕ vec a (24 * n + l)) (ap (λ (x : List ℕ). vec x l) p ∙ vec-tab 24 (folded_from b a) l hl) ∙ one_more l)
  where
    more : suc (8 - b) ≡ 8 - n
    more = omega arith

    one_more : (l : ℕ) → times_root 7 0x1b (folded_from b a l) ⊕ vec a (24 * n + l) ≡ folded_from n a l
    one_more l =
        ap (λ (x : ℕ). times_root 7 0x1b (fold_from (8 - b) x (λ i. vec a (24 * i + l))) ⊕ vec a (24 * n + l)) (e ∙ add-one n)
        ∙ fold_from-suc (8 - b) n (λ i. vec a (24 * i + l))
        ∙ ap (λ (x : ℕ). fold_from x n (λ i. vec a (24 * i + l))) more

pub fold_end : (a r : List ℕ) (b : ℕ) → b ≡ 0 → r ≡ tab 24 (folded_from b a) → r ≡ tab 24 (folded a)
unfolding folded
fold_end a r b e p =
    p ∙ ap (λ (n : ℕ). tab 24 (folded_from n a)) e
    ∙ tab-ext 24 _ _
    (λ l h.
    fold_from-sum 8 0 (λ i. vec a (24 * i + l)) ∙ sum-ext 8 _ _ (λ i hi. ap (λ (x : ℕ). times_power i (vec a (24 * x + l))) (zero-add i)))

-- ---- a sum of lists

abbrev pub fold_of : (ℕ → ℕ) → ℕ → ℕ
fold_of f l = sum 8 (λ b. times_power b (f (24 * b + l)))

pub folded-sofar : (a : List ℕ) (f : ℕ → ℕ) (g : ℕ → ℕ → ℕ) (k : ℕ) → a ≡ sofar 192 f g k → (l : ℕ) → l < 24
    → folded a l ≡ fold_of f l ⊕ sum k (λ i. fold_of (g i) l)
unfolding folded
folded-sofar a f g k e l h =
    sum-ext 8 _ _
    (λ b hb.
    ap (λ (x : List ℕ). times_power b (vec x (24 * b + l))) e ∙ ap (times_power b) (vec-sofar 192 f g k (24 * b + l) (omega arith))
    ∙ power-⊕ b (f (24 * b + l)) (sum k (λ i. g i (24 * b + l)))
    ∙ ap (times_power b (f (24 * b + l)) ⊕◌) (sum-map (times_power b) (power-⊕ b) k (λ i. g i (24 * b + l))))
    ∙ sum-⊕ 8 (λ b. times_power b (f (24 * b + l))) (λ b. sum k (λ i. times_power b (g i (24 * b + l))))
    ∙ ap (fold_of f l ⊕◌) (sum-swap 8 k (λ b i. times_power b (g i (24 * b + l))))
