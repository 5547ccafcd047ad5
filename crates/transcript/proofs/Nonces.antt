-- The nonce search: its turns and its ends, and what its answers mean. Assumes nothing.
use mathlib.Core.Path.{◌≡◌, refl, sym, ap, ◌∙◌}
use mathlib.Core.Bool.{Bool, true, false}
use mathlib.Core.List.{List, ◌∷◌}
use mathlib.Core.Option.{Option, none, some}
use Rattle.std.specs.Prelude.{Some, None}
use Prim.Native.Nat.{ℕ, suc, ◌+◌, ◌<◌, ◌≤◌}
use native.Mathlib.Omega.{arith}
use borrow.Author.Count.{below_more}
use lib.ListN.{length}
use Rattle.octets.specs.Lists.{part, bytes_of}
use Rattle.octets.specs.Place.{place}
use Rattle.octets.proofs.Part.{length-bytes_of}
use Rattle.octets.proofs.Place.{length-place}
use Rattle.octets.proofs.Frame.{part-before}
use Rattle.shake.specs.Shake.{shake128}
use Rattle.paper.specs.Symmetric.{selector, for_challenge}
use Rattle.paper.specs.Challenge.{challenge, passes, first_below}
use Rattle.paper.proofs.Challenge.{first_more, first_short, first-place}
use Rattle.transcript.specs.Search.{search_of, number_of_search, nonce_of_search}
use Rattle.transcript.proofs.Inputs.{challenge-flat}

-- ---- the ends of a search in which nothing below n passed

module _ (p : ℕ → Bool) where
  pub search-found : (t n : ℕ) → n < t → p n ≡ true → ((k : ℕ) → k < n → p k ≡ false) → Some n ≡ search_of (first_below p t)
  unfolding search_of
  search-found t n h e m = ap search_of (sym (first_more p (suc n) t n h (first-place p n e m)))

  pub search-spent : (t : ℕ) → ((k : ℕ) → k < t → p k ≡ false) → None ≡ search_of (first_below p t)
  unfolding search_of
  search-spent t m = ap search_of (sym (first_short p t m))

-- ---- its answers: each exactly when, and their numbers

pub found_some : (o : Option ℕ) (n : ℕ) → search_of o ≡ Some n → o ≡ some n
unfolding search_of
found_some (some m) n e = let z : m ≡ n = cc in ap some z
found_some none n e = cc

pub spent-none : (o : Option ℕ) → search_of o ≡ None → o ≡ none
unfolding search_of
spent-none (some m) e = cc
spent-none none e = refl

pub nonce-search : (o : Option ℕ) → nonce_of_search (search_of o) ≡ o
unfolding nonce_of_search search_of
nonce-search (some m) = refl
nonce-search none = refl

pub number-some : (n : ℕ) → number_of_search (search_of (some n)) ≡ 0
unfolding number_of_search search_of
number-some n = refl

pub number-none : number_of_search (search_of none) ≡ 5
unfolding number_of_search search_of
number-none = refl

-- ---- the loop

abbrev pub passing : List ℕ → ℕ → Bool
passing h n = passes (challenge h (bytes_of 4 n))

-- p holds XOF_5's input up to the nonce, and no nonce below n passed
pub record Searching (h : List ℕ) (t : ℕ) (p : List ℕ) (n : ℕ) : Type 0 where
  pub within : n ≤ t
  pub size : length p ≡ 37
  pub front : part 0 33 p ≡ selector for_challenge ∷ h
  pub missed : (k : ℕ) → k < n → passing h k ≡ false

pub searching-start : (h : List ℕ) (t : ℕ) (p : List ℕ) → length p ≡ 37 → part 0 33 p ≡ selector for_challenge ∷ h → Searching h t p 0
searching-start h t p l f = record { within = omega arith; size = l; front = f; missed = λ k i. absurd (omega arith) }

module _ (h : List ℕ) (t : ℕ) (p : List ℕ) (n : ℕ) (s : Searching h t p n) where
  -- what a test finds out
  pub searching-test : {q : List ℕ} {r : Bool} → q ≡ place 33 (bytes_of 4 n) p → r ≡ passes (shake128 q 19) → r ≡ passing h n
  searching-test e f = f ∙ ap passes (challenge-flat h (bytes_of 4 n) p s.front (length-bytes_of 4 n) s.size e)

  pub searching-turn : {q : List ℕ} → n < t → q ≡ place 33 (bytes_of 4 n) p → passing h n ≡ false → Searching h t q (n + 1)
  searching-turn l e f =
      record {
        within = omega arith;
        size = ap length e ∙ length-place 33 (bytes_of 4 n) p ∙ s.size;
        front = ap (part 0 33) e ∙ part-before 0 33 33 (bytes_of 4 n) p (omega arith) (omega arith) ∙ s.front;
        missed = below_more (λ (k : ℕ). passing h k ≡ false) n s.missed f;
      }
