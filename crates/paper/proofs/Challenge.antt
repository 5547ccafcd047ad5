-- The first nonce that passes. Assumes nothing.
use mathlib.Core.Path.{◌≡◌, refl, sym, ap, ap₂, ◌∙◌}
use mathlib.Core.Logic.{⊎_elim}
use mathlib.Core.List.{List, ◌++◌}
use mathlib.Core.Bool.{Bool, true, false}
use mathlib.Core.Option.{Option, none, some}
use Prim.Native.Nat.{ℕ, zero, suc, ◌+◌, ◌-◌, ◌<◌, ◌≤◌}
use native.Mathlib.Nat.{eq-or-lt_of_le}
use native.Mathlib.Omega.{arith}
use Rattle.paper.specs.Symmetric.{for_challenge}
use Rattle.paper.specs.Challenge.{challenge, hidden_in, only_if, or_else, first_below}
use Rattle.paper.proofs.Symmetric.{bytes-xof}
use Rattle.octets.proofs.Bounds.{bytes-at}

-- a hidden leaf is one of 256
pub hidden-lt : (h nonce : List ℕ) (e : ℕ) → hidden_in (challenge h nonce) e < 256
unfolding hidden_in challenge
hidden-lt h nonce e = bytes-at _ (bytes-xof for_challenge (h ++ nonce) 19) e

module _ (p : ℕ → Bool) where
  -- what is known of a number found below t
  pub record First (t n : ℕ) : Type 0 where
    pub below : n < t
    pub holds : p n ≡ true
    pub least : (k : ℕ) → k < n → p k ≡ false

  -- nothing found below t: none holds there
  pub first-none : (t : ℕ) → first_below p t ≡ none → (k : ℕ) → k < t → p k ≡ false
  unfolding first_below or_else only_if
  first-none zero e k h = absurd (omega arith)
  first-none (suc t) e k h = go (λ q s. first-none t q k s) (first_below p t) refl (p t) refl e
    where
      go : (first_below p t ≡ none → k < t → p k ≡ false) → (o : Option ℕ) → first_below p t ≡ o → (b : Bool) → p t ≡ b → or_else o (only_if b t) ≡ none → p k ≡ false
      go ih (some n) q b r e = cc
      go ih none q true r e = cc
      go ih none q false r e =
          ⊎_elim (λ (s : k ≡ t). ap p s ∙ r) (λ (s : k < t). ih q s) (eq-or-lt_of_le {n = k} {m = t} (omega arith))

  pub first_some : (t n : ℕ) → first_below p t ≡ some n → First t n
  unfolding first_below or_else only_if
  first_some zero n e = let z : ◌≡◌ {A = ℕ} 0 1 = cc in absurd (omega arith)
  first_some (suc t) n e = go (first_some t n) (first_below p t) refl (p t) refl e
    where
      go : (first_below p t ≡ some n → First t n) → (o : Option ℕ) → first_below p t ≡ o → (b : Bool) → p t ≡ b → or_else o (only_if b t) ≡ some n → First (suc t) n
      go ih (some k) q b r e =
          let f : First t n = ih (q ∙ e) in
          record { below = omega arith; holds = f.holds; least = f.least }
      go ih none q true r e =
          let s : t ≡ n = cc in
          record { below = omega arith; holds = ap p (sym s) ∙ r; least = λ k h. first-none t q k (omega arith) }
      go ih none q false r e = let z : ◌≡◌ {A = ℕ} 0 1 = cc in absurd (omega arith)

  step : (t n : ℕ) → first_below p t ≡ some n → first_below p (suc t) ≡ some n
  unfolding first_below or_else
  step t n e = ap (λ (o : Option ℕ). or_else o (only_if (p t) t)) e

  steps : (k t n : ℕ) → first_below p t ≡ some n → first_below p (k + t) ≡ some n
  steps zero t n e = ap (first_below p) (omega arith) ∙ e
  steps (suc k) t n e = ap (first_below p) (omega arith) ∙ step (k + t) n (steps k t n e)

  -- more tries give the same
  pub first_more : (t u n : ℕ) → t ≤ u → first_below p t ≡ some n → first_below p u ≡ some n
  first_more t u n h e = ap (first_below p) (omega arith) ∙ steps (u - t) t n e

  -- tries up to the first passing number's place, not counting it, find none; that many and one more find it
  pub first_short : (n : ℕ) → ((k : ℕ) → k < n → p k ≡ false) → first_below p n ≡ none
  unfolding first_below or_else only_if
  first_short zero h = refl
  first_short (suc n) h =
      ap₂ (λ (o : Option ℕ) (b : Bool). or_else o (only_if b n)) (first_short n (λ k hk. h k (omega arith))) (h n (omega arith))

  pub first-place : (n : ℕ) → p n ≡ true → ((k : ℕ) → k < n → p k ≡ false) → first_below p (suc n) ≡ some n
  unfolding first_below or_else only_if
  first-place n t h = ap₂ (λ (o : Option ℕ) (b : Bool). or_else o (only_if b n)) (first_short n h) t
