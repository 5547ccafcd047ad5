-- The laws of `sum`: what is additive passes through it, and a place may be left out. Assumes nothing.
use mathlib.Core.Path.{◌≡◌, refl, sym, ap, ap₂, ◌∙◌, subst}
use mathlib.Core.Bool.{Bool, true, false, cond}
use Prim.Native.Nat.{ℕ, zero, suc, ◌+◌, ◌<◌, ◌≤◌, ◌^◌}
use native.Mathlib.Nat.{not-suc-le-zero}
use native.Mathlib.Omega.{arith}
use lib.Pow.{pow_pos}
use lib.Dec.{eqb}
use borrow.Author.Tests.{eqb-true, eqb-false, eq-eqb, ne_eqb}
use Rattle.octets.specs.Xor.{◌⊕◌}
use Rattle.field.specs.Gf.{◌⊗◌}
use Rattle.octets.proofs.Xor.{⊕-assoc, ⊕-zero-r, ⊕-self, ⊕-swap, ⊕-lt, ⊕·sort}
use Rattle.field.proofs.Linear.{Additive, additive-zero}
use Rattle.field.proofs.Field.{⊗-⊕-l, ⊗-⊕-r, ⊗-zero-l, ⊗-lt}
use Rattle.field.specs.Vec.{sum, skip, dot}

pub sum-ext : (n : ℕ) (f g : ℕ → ℕ) → ((i : ℕ) → i < n → f i ≡ g i) → sum n f ≡ sum n g
unfolding sum
sum-ext zero f g h = refl
sum-ext (suc n) f g h = ap₂ ◌⊕◌ (sum-ext n f g (λ i hi. h i (omega arith))) (h n (omega arith))

pub sum-zero : (n : ℕ) → sum n (λ i. 0) ≡ 0
unfolding sum
sum-zero zero = refl
sum-zero (suc n) = ⊕-zero-r (sum n (λ i. 0)) ∙ sum-zero n

pub sum-⊕ : (n : ℕ) (f g : ℕ → ℕ) → sum n (λ i. f i ⊕ g i) ≡ sum n f ⊕ sum n g
unfolding sum
sum-⊕ zero f g = sym (⊕-self 0)
sum-⊕ (suc n) f g = ap (λ (x : ℕ). x ⊕ (f n ⊕ g n)) (sum-⊕ n f g) ∙ ⊕-swap (sum n f) (sum n g) (f n) (g n)

-- an additive map of a sum
pub sum-map : (h : ℕ → ℕ) → Additive h → (n : ℕ) (f : ℕ → ℕ) → h (sum n f) ≡ sum n (λ i. h (f i))
unfolding sum
sum-map h a zero f = additive-zero h a
sum-map h a (suc n) f = a (sum n f) (f n) ∙ ap (λ (x : ℕ). x ⊕ h (f n)) (sum-map h a n f)

pub sum-⊗-l : (n : ℕ) (c : ℕ) (f : ℕ → ℕ) → sum n (λ i. c ⊗ f i) ≡ c ⊗ sum n f
sum-⊗-l n c f = sym (sum-map (c ⊗◌) (⊗-⊕-r c) n f)

pub sum-⊗-r : (n : ℕ) (c : ℕ) (f : ℕ → ℕ) → sum n (λ i. f i ⊗ c) ≡ sum n f ⊗ c
sum-⊗-r n c f = sym (sum-map (λ x. x ⊗ c) (λ a b. ⊗-⊕-l a b c) n f)

-- the order of two sums
pub sum-swap : (n m : ℕ) (f : ℕ → ℕ → ℕ) → sum n (λ i. sum m (f i)) ≡ sum m (λ j. sum n (λ i. f i j))
unfolding sum
sum-swap zero m f = sym (sum-zero m)
sum-swap (suc n) m f = ap (λ (x : ℕ). x ⊕ sum m (f n)) (sum-swap n m f) ∙ sym (sum-⊕ m (λ j. sum n (λ i. f i j)) (f n))

-- a sum in two parts
pub sum-add : (n m : ℕ) (f : ℕ → ℕ) → sum (n + m) f ≡ sum n f ⊕ sum m (λ i. f (n + i))
unfolding sum
sum-add n zero f = ap (λ (k : ℕ). sum k f) same ∙ sym (⊕-zero-r (sum n f))
  where
    same : n + 0 ≡ n
    same = omega arith
sum-add n (suc m) f =
    ap (λ (k : ℕ). sum k f) same ∙ ap (λ (x : ℕ). x ⊕ f (n + m)) (sum-add n m f)
    ∙ ⊕-assoc (sum n f) (sum m (λ i. f (n + i))) (f (n + m))
  where
    same : n + suc m ≡ suc (n + m)
    same = omega arith

-- ---- a place left out

pub skip-same : (s : ℕ) (f : ℕ → ℕ) → skip s f s ≡ 0
unfolding skip
skip-same s f = ap (λ (t : Bool). cond t 0 (f s)) (eq-eqb s s refl)

pub skip-other : (s : ℕ) (f : ℕ → ℕ) (k : ℕ) → (k ≡ s → ⊥) → skip s f k ≡ f k
unfolding skip
skip-other s f k h = ap (λ (t : Bool). cond t 0 (f k)) (ne_eqb k s h)

-- what holds at s and elsewhere
pub skip-cases : (P : ℕ → Type 0) (s k : ℕ) → P s → ((k ≡ s → ⊥) → P k) → P k
skip-cases P s k p q = go (eqb k s) refl
  where
    go : (t : Bool) → eqb k s ≡ t → P k
    go true e = subst P (sym (eqb-true k s e)) p
    go false e = q (eqb-false k s e)

-- a factor that is 0 at s: the place may be left out or not
pub skip-factor : (c f : ℕ → ℕ) (s : ℕ) → c s ≡ 0 → (k : ℕ) → c k ⊗ skip s f k ≡ c k ⊗ f k
skip-factor c f s h k =
    skip-cases (λ k. c k ⊗ skip s f k ≡ c k ⊗ f k) s k
    (ap (λ (x : ℕ). x ⊗ (skip s f s)) h ∙ ⊗-zero-l (skip s f s) ∙ sym (ap (λ (x : ℕ). x ⊗ (f s)) h ∙ ⊗-zero-l (f s)))
    (λ ne. ap (c k ⊗◌) (skip-other s f k ne))

-- a place past the end
pub sum-skip-past : (n s : ℕ) (f : ℕ → ℕ) → n ≤ s → sum n (skip s f) ≡ sum n f
sum-skip-past n s f h = sum-ext n (skip s f) f (λ i hi. skip-other s f i (λ e. omega arith))

-- the sum with the place left out, and what is there
pub sum-skip : (n s : ℕ) (f : ℕ → ℕ) → s < n → sum n (skip s f) ⊕ f s ≡ sum n f
unfolding sum
sum-skip zero s f h = absurd (not-suc-le-zero h)
sum-skip (suc n) s f h = go (sum-skip n s f) (eqb n s) refl
  where
    go : (s < n → sum n (skip s f) ⊕ f s ≡ sum n f) → (t : Bool) → eqb n s ≡ t → sum n (skip s f) ⊕ skip s f n ⊕ f s ≡ sum n f ⊕ f n
    go ih true e =
        let q : n ≡ s = eqb-true n s e in
        rw (sum-skip-past n s f (omega arith), q, skip-same, ⊕-zero-r)
    go ih false e =
        let ne : n ≡ s → ⊥ = eqb-false n s e in
        rw skip-other (simp ⊕·sort (rw (← ih (omega arith)) (simp ⊕·sort)))

-- the place left out is not read
pub skip-ext : (n s : ℕ) (f g : ℕ → ℕ) → ((k : ℕ) → k < n → (k ≡ s → ⊥) → f k ≡ g k) → (k : ℕ) → k < n → skip s f k ≡ skip s g k
skip-ext n s f g h k hk =
    skip-cases (λ k. k < n → skip s f k ≡ skip s g k) s k (λ hs. skip-same s f ∙ sym (skip-same s g))
    (λ ne hk. skip-other s f k ne ∙ h k hk ne ∙ sym (skip-other s g k ne)) hk

-- sums of elements are elements
pub sum_lt : (b n : ℕ) (f : ℕ → ℕ) → ((i : ℕ) → i < n → f i < 2 ^ b) → sum n f < 2 ^ b
unfolding sum
sum_lt b zero f h = pow_pos b
sum_lt b (suc n) f h = ⊕-lt b (sum_lt b n f (λ i hi. h i (omega arith))) (h n (omega arith))

pub dot-lt : (n : ℕ) (f g : ℕ → ℕ) → dot n f g < 2 ^ 8
dot-lt n f g = sum_lt 8 n _ (λ i h. ⊗-lt (f i) (g i))
