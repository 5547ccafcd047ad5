-- The laws of `Put`: a loop that writes an element a turn, each to its own place. Assumes nothing.
use mathlib.Core.Path.{◌≡◌, refl, sym, ap, subst, ◌∙◌}
use mathlib.Core.Logic.{⊎_elim}
use mathlib.Core.List.{List, ◌++◌}
use Prim.Native.Nat.{ℕ, ◌+◌, ◌-◌, ◌<◌, ◌≤◌}
use native.Mathlib.Omega.{arith}
use borrow.Author.Count.{below_more}
use lib.Bits.{bit_xor}
use lib.ListN.{length, set, take, drop}
use lib.Seq.{get_or-set_same, get_or-set_other}
use Rattle.std.proofs.lemmas.Bool.{cases_lt}
use Rattle.octets.specs.Xor.{◌⊕◌}
use Rattle.octets.specs.Lists.{vec, tab}
use Rattle.octets.proofs.Xor.{xor-is-⊕}
use Rattle.octets.proofs.Tab.{is-tab}
use Rattle.octets.proofs.Place.{place-back}
use Rattle.octets.proofs.Frame.{vec-place, vec-place-before, vec-place-after}
use Rattle.equations.specs.Put.{Put}

pub put-start : (d : List ℕ) (p f : ℕ → ℕ) → Put d 0 p f d
put-start d p f = record { here = λ k h. absurd (omega arith); others = λ i h. refl }

-- place p n is not written before turn n
abbrev pub Fresh : (ℕ → ℕ) → ℕ → Type 0
Fresh p n = (k : ℕ) → k < n → p n ≡ p k → ⊥

module _ (d : List ℕ) (p f : ℕ → ℕ) (n : ℕ) (e : List ℕ) (put : Put d n p f e) (fresh : Fresh p n) where
  pub put-read : vec e (p n) ≡ vec d (p n)
  put-read = put.others (p n) fresh

  pub put-turn : (x : ℕ) → p n < length e → x ≡ f n → Put d (n + 1) p f (set e (p n) x)
  put-turn x h q =
      record {
        here =
            below_more (λ (k : ℕ). vec (set e (p n) x) (p k) ≡ f k) n
            (λ k l. get_or-set_other e (p n) (p k) x 0 (λ same. fresh k l (sym same)) ∙ put.here k l)
            (get_or-set_same e (p n) x 0 h ∙ q);
        others =
            λ i apart.
            get_or-set_other e (p n) i x 0 (apart n (omega arith)) ∙ put.others i (λ k l. apart k (omega arith));
      }

  -- a turn that adds to what is there
  pub put-add : (x : ℕ) → p n < length e → f n ≡ vec d (p n) ⊕ x → Put d (n + 1) p f (set e (p n) (bit_xor (vec e (p n)) x))
  put-add x h q = put-turn (bit_xor (vec e (p n)) x) h (xor-is-⊕ (vec e (p n)) x ∙ ap (◌⊕ x) put-read ∙ sym q)

-- a list of which every element is written
pub put_all : (d : List ℕ) (n i : ℕ) (f : ℕ → ℕ) (e : List ℕ) → length e ≡ n → n ≤ i → Put d i (λ k. k) f e → e ≡ tab n f
put_all d n i f e l h put = is-tab n f e l (λ k hk. put.here k (omega arith))

pub put-end : (d : List ℕ) (i n : ℕ) (p f : ℕ → ℕ) (e : List ℕ) → i ≤ n → n ≤ i → Put d i p f e → Put d n p f e
put-end d i n p f e h h' put =
    record { here = λ k l. put.here k (omega arith); others = λ j apart. put.others j (λ k l. apart k (omega arith)) }

-- a part of d that was lent, and came back as x
pub put-part : (a n : ℕ) (f : ℕ → ℕ) (d x : List ℕ) → a + n ≤ length d → length x ≡ n → ((k : ℕ) → k < n → vec x k ≡ f k)
    → Put d n (λ k. a + k) f (take a d ++ (x ++ drop n (drop a d)))
put-part a n f d x h e all =
    subst (Put d n (λ (k : ℕ). a + k) f) (sym (place-back a n x d e h))
    record {
      here = λ k l. vec-place a x d k (omega arith) (omega arith) ∙ all k l;
      others =
          λ i apart.
          ⊎_elim (λ l. vec-place-before a x d i l)
          (λ l. vec-place-after a x d i (⊎_elim (λ u. absurd (apart (i - a) (omega arith) (omega arith))) (λ u. omega arith) (cases_lt i (a + n))))
          (cases_lt i a);
    }
