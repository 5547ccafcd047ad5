-- The laws of `tab`: a list made of a function. Assumes nothing.
use mathlib.Core.Path.{◌≡◌, refl, sym, ap, subst, ◌∙◌}
use mathlib.Core.List.{List, ◌∷◌, ◌++◌}
use Prim.Native.Nat.{ℕ, zero, suc, ◌+◌, ◌<◌}
use native.Mathlib.Nat.{not-suc-le-zero, add-zero, zero-add}
use native.Mathlib.Omega.{arith}
use lib.ListN.{length}
use lib.Seq.{ext_get_or}
use denote.Param.Members.{Mut}
use Rattle.std.specs.Fn.{Called}
use Rattle.std.specs.Array.{IsFromFnResult, IsFromFnResultFrom}
use Rattle.octets.specs.Lists.{vec, tab}

pub length-tab : (n : ℕ) (f : ℕ → ℕ) → length (tab n f) ≡ n
unfolding tab
length-tab zero f = refl
length-tab (suc n) f = ap suc (length-tab n (λ i. f (suc i)))

pub vec-tab : (n : ℕ) (f : ℕ → ℕ) (i : ℕ) → i < n → vec (tab n f) i ≡ f i
unfolding tab
vec-tab zero f i h = absurd (not-suc-le-zero h)
vec-tab (suc n) f zero h = refl
vec-tab (suc n) f (suc i) h = vec-tab n (λ k. f (suc k)) i (omega arith)

-- a list that holds f's first n elements
pub is-tab : (n : ℕ) (f : ℕ → ℕ) (l : List ℕ) → length l ≡ n → ((i : ℕ) → i < n → vec l i ≡ f i) → l ≡ tab n f
is-tab n f l e h = ext_get_or 0 l (tab n f) (e ∙ sym (length-tab n f)) (λ i hi. h i (omega arith) ∙ sym (vec-tab n f i (omega arith)))

pub tab-ext : (n : ℕ) (f g : ℕ → ℕ) → ((i : ℕ) → i < n → f i ≡ g i) → tab n f ≡ tab n g
tab-ext n f g h = is-tab n g (tab n f) (length-tab n f) (λ i hi. vec-tab n f i hi ∙ h i hi)

pub tab-append : (n m : ℕ) (f : ℕ → ℕ) → tab (n + m) f ≡ tab n f ++ tab m (λ i. f (n + i))
unfolding tab
tab-append zero m f = go m f (0 + m) (omega arith)
  where
    go : (m : ℕ) (f : ℕ → ℕ) (k : ℕ) → k ≡ m → tab k f ≡ tab m (λ i. f (0 + i))
    go m f k e = ap (λ (n : ℕ). tab n f) e ∙ tab-ext m f (λ i. f (0 + i)) (λ i h. ap f (omega arith))
tab-append (suc n) m f =
    ap (λ (k : ℕ). tab k f) more
    ∙ ap (λ (l : List ℕ). f 0 ∷ l)
    (tab-append n m (λ i. f (suc i))
    ∙ ap (λ (l : List ℕ). tab n (λ i. f (suc i)) ++ l) (tab-ext m (λ i. f (suc (n + i))) (λ i. f (suc n + i)) (λ i h. ap f (omega arith))))
  where
    more : suc n + m ≡ suc (n + m)
    more = omega arith

-- an array made by `array::from_fn`, of a closure that stays as it is
module _ {F : Type 0} (g : Mut F (ℕ × Unit {0}) ℕ) (f : F) (h : ℕ → ℕ) (call : (i y : ℕ) (q : F) → Called g f (i, tt) y q → (q ≡ f) × (y ≡ h i)) where
  made_at : (ys : List ℕ) (i n k : ℕ) → IsFromFnResultFrom g f ys i n → k < n → vec ys (i + k) ≡ h (i + k)
  made_at ys i zero k m l = absurd (not-suc-le-zero l)
  made_at ys i (suc n) zero m l =
      let here : vec ys i ≡ h i = m.2.1 0 ∙ (call i m.1 m.0 m.3).1 in
      subst (λ (j : ℕ). vec ys j ≡ h j) (sym (add-zero i)) here
  made_at ys i (suc n) (suc k) m l =
      let next : i + 1 + k ≡ i + suc k = omega arith in
      let rest : IsFromFnResultFrom g f ys (i + 1) n = subst (λ (p : F). IsFromFnResultFrom g p ys (i + 1) n) (call i m.1 m.0 m.3).0 m.4 in
      subst (λ (j : ℕ). vec ys j ≡ h j) next (made_at ys (i + 1) n k rest (omega arith))

  pub from_fn-tab : (ys : List ℕ) (n : ℕ) → IsFromFnResult g f ys n → ys ≡ tab n h
  from_fn-tab ys n m = is-tab n h ys m.long (λ i l. subst (λ (j : ℕ). vec ys j ≡ h j) (zero-add i) (made_at ys 0 n i m.each l))
