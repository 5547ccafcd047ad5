-- A list to which whole lists are added, one after the other: the loop's start, turn and end. Assumes nothing.
use mathlib.Core.Path.{◌≡◌, sym, ap, ap₂, ◌∙◌}
use mathlib.Core.List.{List}
use Prim.Native.Nat.{ℕ, ◌+◌, ◌<◌}
use native.Mathlib.Numerals.{add-one}
use lib.ListN.{length, replicate, get_or-replicate, length-replicate}
use Rattle.octets.specs.Xor.{◌⊕◌}
use Rattle.octets.specs.Lists.{vec, tab}
use Rattle.octets.proofs.Xor.{⊕-assoc, ⊕-zero-l, ⊕-zero-r}
use Rattle.octets.proofs.Tab.{is-tab, tab-ext, vec-tab}
use Rattle.field.specs.Vec.{sum}

-- f + the first k of g, on n lanes
unfoldable pub sofar : ℕ → (ℕ → ℕ) → (ℕ → ℕ → ℕ) → ℕ → List ℕ
sofar n f g k = tab n (λ l. f l ⊕ sum k (λ i. g i l))

pub vec-sofar : (n : ℕ) (f : ℕ → ℕ) (g : ℕ → ℕ → ℕ) (k l : ℕ) → l < n → vec (sofar n f g k) l ≡ f l ⊕ sum k (λ i. g i l)
unfolding sofar
vec-sofar n f g k l h = vec-tab n (λ l. f l ⊕ sum k (λ i. g i l)) l h

module _ (n : ℕ) (f : ℕ → ℕ) (g : ℕ → ℕ → ℕ) where
  pub sofar-start : (z : List ℕ) → length z ≡ n → ((l : ℕ) → l < n → vec z l ≡ f l) → z ≡ sofar n f g 0
  unfolding sofar sum
  sofar-start z e h = is-tab n _ z e (λ l hl. h l hl ∙ sym (⊕-zero-r (f l)))

  -- f is added to zeros
  pub sofar-first : tab n (λ l. vec (replicate n 0) l ⊕ f l) ≡ sofar n f g 0
  unfolding sofar sum
  sofar-first = tab-ext n _ _ (λ l hl. ap (◌⊕ f l) (get_or-replicate n l 0 0 hl) ∙ ⊕-zero-l (f l) ∙ sym (⊕-zero-r (f l)))

  pub sofar-turn : (t : List ℕ) (h : ℕ → ℕ) (k : ℕ) → t ≡ sofar n f g k → ((l : ℕ) → l < n → h l ≡ g k l)
      → tab n (λ l. vec t l ⊕ h l) ≡ sofar n f g (k + 1)
  unfolding sofar sum
  sofar-turn t h k e q =
      tab-ext n _ _
      (λ l hl.
      ap₂ ◌⊕◌ (ap (λ (x : List ℕ). vec x l) e ∙ vec-tab n (λ l. f l ⊕ sum k (λ i. g i l)) l hl) (q l hl)
      ∙ ⊕-assoc (f l) (sum k (λ i. g i l)) (g k l)
      ∙ ap (λ (n : ℕ). f l ⊕ sum n (λ i. g i l)) (sym (add-one k)))

  pub sofar-end : (t : List ℕ) (k j : ℕ) (h : ℕ → ℕ) → k ≡ j → t ≡ sofar n f g k → ((l : ℕ) → l < n → f l ⊕ sum j (λ i. g i l) ≡ h l) → t ≡ tab n h
  unfolding sofar
  sofar-end t k j h e q p = q ∙ ap (λ (m : ℕ). tab n (λ l. f l ⊕ sum m (λ i. g i l))) e ∙ tab-ext n _ _ p

-- zeros, before anything is added
pub sofar-zeros : (n : ℕ) (g : ℕ → ℕ → ℕ) → replicate n 0 ≡ sofar n (λ l. 0) g 0
sofar-zeros n g = sofar-start n (λ l. 0) g (replicate n 0) (length-replicate n 0) (λ l h. get_or-replicate n l 0 0 h)
