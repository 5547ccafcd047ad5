-- The loops that spread the vectors: a digit, a vector, all of them. Assumes nothing.
use mathlib.Core.Path.{◌≡◌, refl, sym, ap, subst, ◌∙◌}
use mathlib.Core.Logic.{⊎_elim}
use mathlib.Core.List.{List}
use Prim.Native.Nat.{ℕ, ◌+◌, ◌*◌, ◌<◌, ◌≤◌}
use native.Mathlib.Nat.{add_assoc, eq-or-lt_of_le}
use native.Mathlib.Omega.{arith}
use borrow.Author.Count.{below_more}
use Rattle.octets.specs.Lists.{vec, view}
use Rattle.equations.specs.Lanes.{lane, mask_of, Masks, Spread}
use Rattle.equations.specs.Put.{Put}

-- ---- a vector

pub spread_none : (d : List ℕ) (k : ℕ) → Spread d k 8 d
spread_none d k = record { masks = λ b l h h'. absurd (omega arith); before = λ i h. refl; behind = λ i h. refl }

pub spread-digit : (d e e' : List ℕ) (k n b : ℕ) → n ≡ b + 1 → b < 8 → Spread d k n e
    → Put e 24 (λ l. 192 * k + 24 * b + l) (λ l. mask_of (lane e k l) b) e' → Spread d k b e'
spread-digit d e e' k n b q hb s p =
    record {
      masks =
          λ b' l h h' hl.
          ⊎_elim (λ same. subst (λ (x : ℕ). view e' (192 * k) (24 * x + l) ≡ mask_of (lane d k l) x) same (digit l hl))
          (λ more. p.others _ (λ j hj z. omega arith) ∙ s.masks b' l (omega arith) h' hl)
          (eq-or-lt_of_le h);
      before = λ i h. p.others i (λ j hj z. omega arith) ∙ s.before i (omega arith);
      behind = λ i h. p.others i (λ j hj z. omega arith) ∙ s.behind i h;
    }
  where
    digit : (l : ℕ) → l < 24 → view e' (192 * k) (24 * b + l) ≡ mask_of (lane d k l) b
    digit l hl =
        ap (vec e') (sym (add_assoc (192 * k) (24 * b) l)) ∙ p.here l hl
        ∙ ap (λ (x : ℕ). mask_of x b) (s.before (192 * k + l) (omega arith))

pub spread-vector : (d e : List ℕ) (k b : ℕ) → b ≤ 0 → Spread d k b e → Spread d k 0 e
spread-vector d e k b h s =
    record { masks = λ b' l z. s.masks b' l (omega arith); before = λ i z. s.before i (omega arith); behind = s.behind }

-- ---- all vectors

-- the first n are spread
pub record Spreading (d : List ℕ) (n : ℕ) (e : List ℕ) : Type 0 where
  pub masks : (k : ℕ) → k < n → (b l : ℕ) → b < 8 → l < 24 → view e (192 * k) (24 * b + l) ≡ mask_of (lane d k l) b
  pub behind : (i : ℕ) → 192 * n ≤ i → vec e i ≡ vec d i

pub spreading-none : (d : List ℕ) → Spreading d 0 d
spreading-none d = record { masks = λ k h. absurd (omega arith); behind = λ i h. refl }

pub spreading-turn : (d e e' : List ℕ) (n : ℕ) → Spreading d n e → Spread e n 0 e' → Spreading d (n + 1) e'
spreading-turn d e e' n s p =
    record {
      masks =
          below_more (λ (k : ℕ). (b l : ℕ) → b < 8 → l < 24 → view e' (192 * k) (24 * b + l) ≡ mask_of (lane d k l) b) n
          (λ k hk b l hb hl. p.before _ (omega arith) ∙ s.masks k hk b l hb hl)
          (λ b l hb hl. p.masks b l (omega arith) hb hl ∙ ap (λ (x : ℕ). mask_of x b) (s.behind (192 * n + l) (omega arith)));
      behind = λ i h. p.behind i (omega arith) ∙ s.behind i (omega arith);
    }

pub spreading-end : (d e : List ℕ) (n : ℕ) → 57 ≤ n → Spreading d n e → Masks e (lane d)
spreading-end d e n h s = record { at = λ k b l hk hb hl. s.masks k (omega arith) b l hb hl }

-- masks are those of any vectors with the same elements
pub masks-ext : (m : List ℕ) (v v' : ℕ → ℕ → ℕ) → ((k l : ℕ) → k < 57 → l < 24 → v k l ≡ v' k l) → Masks m v → Masks m v'
masks-ext m v v' h masks = record { at = λ k b l hk hb hl. masks.at k b l hk hb hl ∙ ap (λ (x : ℕ). mask_of x b) (h k l hk hl) }
