-- A repetition evaluated: what stands in the workspace after the writes of eval_one (algorithm 12). Assumes nothing.
use mathlib.Core.Path.{◌≡◌, refl, sym, ap, ap₂, ◌∙◌}
use mathlib.Core.List.{List, ◌++◌}
use Prim.Native.Nat.{ℕ, ◌+◌, ◌*◌, ◌<◌, ◌≤◌}
use native.Mathlib.Omega.{arith}
use borrow.Author.Count.{below_more}
use lib.ListN.{length, set}
use lib.Seq.{get_or-set_same, get_or-set_other}
use Rattle.octets.specs.Lists.{vec, tab, part, joined}
use Rattle.octets.specs.Place.{place}
use Rattle.octets.proofs.Tab.{length-tab, vec-tab}
use Rattle.octets.proofs.Part.{vec-part}
use Rattle.octets.proofs.Place.{length-place}
use Rattle.octets.proofs.Frame.{vec-place, vec-place-before, part-before, part-after, part-place, part-add, part-turn, part_none}
use Rattle.algebra.specs.Folding.{point}
use Rattle.paper.specs.Commit.{hash_ls_com, lscom_in, x_eval, u_eval}
use Rattle.workspace.specs.Map.{at_vectors, at_tree, at_hashes, at_sent, at_alpha0}
use Rattle.equations.specs.Put.{Put}
use Rattle.checker.specs.State.{rest_of, Placed, Evaluated}

pub length-rest_of : (u a : List ℕ) (r : ℕ) → length (rest_of u a r) ≡ 28
unfolding rest_of
length-rest_of u a r = length-tab 28 _

-- the workspace w after the writes: the tree's room t and the vectors v, then the hash h and the rest s of repetition e
abbrev scratch : List ℕ → List ℕ → List ℕ → List ℕ
scratch w t v = place at_vectors v (place at_tree t w)

abbrev kept : List ℕ → ℕ → List ℕ → List ℕ → List ℕ
kept w e h s = place (at_alpha0 + 28 * e) s (place (at_hashes + 32 * e) h w)

module _ (e : ℕ) (w t v h s : List ℕ) (hw : length w ≡ 65536) (he : e < 17) (lt : length t ≡ 12289) (lv : length v ≡ 10944) (lh : length h ≡ 32)
    (ls : length s ≡ 28) where
  len0 : length (place at_tree t w) ≡ 65536
  len0 = length-place at_tree t w ∙ hw

  len1 : length (scratch w t v) ≡ 65536
  len1 = length-place at_vectors v (place at_tree t w) ∙ len0

  len2 : length (place (at_hashes + 32 * e) h (scratch w t v)) ≡ 65536
  len2 = length-place _ h (scratch w t v) ∙ len1

  same : (a n : ℕ) → 41537 ≤ a → a + n ≤ 65536 → part a n (scratch w t v) ≡ part a n w
  same a n p q =
      part-after a n at_vectors v (place at_tree t w) (omega arith) (omega (arith, len0)) ∙ part-after a n at_tree t w (omega arith) (omega arith)

  hashes-turn : (f : ℕ → List ℕ) → part at_hashes (32 * e) w ≡ joined e f → h ≡ f e
      → part at_hashes (32 * (e + 1)) (kept (scratch w t v) e h s) ≡ joined (e + 1) f
  hashes-turn f p q =
      part-before at_hashes (32 * (e + 1)) _ s (place (at_hashes + 32 * e) h (scratch w t v)) (omega arith) (omega (arith, len2))
      ∙ part-turn at_hashes 32 e f h (scratch w t v) _ (same at_hashes (32 * e) (omega arith) (omega arith) ∙ p) q (ap length (sym q) ∙ lh) refl (omega (arith, len1))

  rests-turn : (f : ℕ → List ℕ) → part at_alpha0 (28 * e) w ≡ joined e f → s ≡ f e
      → part at_alpha0 (28 * (e + 1)) (kept (scratch w t v) e h s) ≡ joined (e + 1) f
  rests-turn f p q =
      part-turn at_alpha0 28 e f s (place (at_hashes + 32 * e) h (scratch w t v)) _
      (part-after at_alpha0 (28 * e) _ h (scratch w t v) (omega arith) (omega (arith, len1)) ∙ same at_alpha0 (28 * e) (omega arith) (omega arith) ∙ p)
      q (ap length (sym q) ∙ ls) refl (omega (arith, len2))

  -- a byte of the vectors after the writes, and before them
  in_vectors : (i : ℕ) → i < 10944 → vec (kept (scratch w t v) e h s) (at_vectors + i) ≡ vec v i
  in_vectors i hi =
      vec-place-before _ s (place (at_hashes + 32 * e) h (scratch w t v)) (at_vectors + i) (omega arith)
      ∙ vec-place-before _ h (scratch w t v) (at_vectors + i) (omega arith)
      ∙ vec-place at_vectors v (place at_tree t w) i (omega arith) (omega (arith, len0))

  was : (i : ℕ) → i < 10944 → vec (part at_vectors 10944 (place at_tree t w)) i ≡ vec w (at_vectors + i)
  was i hi = vec-part at_vectors 10944 (place at_tree t w) i hi ∙ vec-place-before at_tree t w (at_vectors + i) (omega arith)

  module _ (salt paths outs sents a1 x : List ℕ) (i : ℕ → ℕ) (r : ℕ) (put : Placed (part at_vectors 10944 (place at_tree t w)) e x r v)
      (ex : x ≡ tab 56 (x_eval 28 salt paths sents e (i e))) (er : r ≡ point (i e)) where
    other : (l k : ℕ) → l < e → k < 57 → vec (kept (scratch w t v) e h s) (at_vectors + (192 * k + l)) ≡ vec w (at_vectors + (192 * k + l))
    other l k hl hk =
        in_vectors (192 * k + l) (omega arith) ∙ put.others k l hk (omega arith) (λ q. omega arith) ∙ was (192 * k + l) (omega arith)

    lanes-turn : ((l k : ℕ) → l < e → k < 56 → vec w (at_vectors + (192 * k + l)) ≡ x_eval 28 salt paths sents l (i l) k)
        → (l k : ℕ) → l < e + 1 → k < 56 → vec (kept (scratch w t v) e h s) (at_vectors + (192 * k + l)) ≡ x_eval 28 salt paths sents l (i l) k
    lanes-turn old l k hl hk =
        below_more (λ (l : ℕ). (k : ℕ) → k < 56 → vec (kept (scratch w t v) e h s) (at_vectors + (192 * k + l)) ≡ x_eval 28 salt paths sents l (i l) k) e
        (λ l hl k hk. other l k hl (omega arith) ∙ old l k hl hk)
        (λ k hk.
        in_vectors (192 * k + e) (omega arith) ∙ put.values k hk ∙ ap (λ (z : List ℕ). vec z k) ex ∙ vec-tab 56 (x_eval 28 salt paths sents e (i e)) k hk)
        l hl k hk

    points-turn : ((l : ℕ) → l < e → vec w (at_vectors + (192 * 56 + l)) ≡ point (i l))
        → (l : ℕ) → l < e + 1 → vec (kept (scratch w t v) e h s) (at_vectors + (192 * 56 + l)) ≡ point (i l)
    points-turn old l hl =
        below_more (λ (l : ℕ). vec (kept (scratch w t v) e h s) (at_vectors + (192 * 56 + l)) ≡ point (i l)) e
        (λ l hl. other l 56 hl (omega arith) ∙ old l hl)
        (in_vectors (192 * 56 + e) (omega arith) ∙ put.point-is ∙ er)
        l hl

    pub evaluated-turn : Evaluated salt paths outs sents a1 i e w → h ≡ hash_ls_com (lscom_in salt paths outs e (i e))
        → s ≡ rest_of (tab 28 (u_eval 28 salt paths sents e (i e))) (part (28 * e) 28 a1) (point (i e))
        → Evaluated salt paths outs sents a1 i (e + 1) (kept (scratch w t v) e h s)
    evaluated-turn c eh es = record {
      hashes = hashes-turn (λ e. hash_ls_com (lscom_in salt paths outs e (i e))) c.hashes eh;
      rests = rests-turn (λ e. rest_of (tab 28 (u_eval 28 salt paths sents e (i e))) (part (28 * e) 28 a1) (point (i e))) c.rests es;
      lanes = lanes-turn c.lanes;
      points = points-turn c.points;
    }

pub evaluated-none : (salt paths outs sents a1 : List ℕ) (i : ℕ → ℕ) (w : List ℕ) → Evaluated salt paths outs sents a1 i 0 w
evaluated-none salt paths outs sents a1 i w = record {
  hashes = part_none at_hashes 32 _ w;
  rests = part_none at_alpha0 28 _ w;
  lanes = λ e k he hk. absurd (omega arith);
  points = λ e he. absurd (omega arith);
}

-- ---- com_1: the corrections x and the selector are written beside what the evaluation left

module _ (salt paths outs sents a1 : List ℕ) (i : ℕ → ℕ) (w : List ℕ) (hw : length w ≡ 65536) (c : Evaluated salt paths outs sents a1 i 17 w) where
  pub evaluated-apart : (b : ℕ) (x : List ℕ) → 42145 ≤ b → b + length x ≤ 42401 → Evaluated salt paths outs sents a1 i 17 (place b x w)
  evaluated-apart b x p q = record {
    hashes = part-before at_hashes 544 b x w (omega arith) (omega arith) ∙ c.hashes;
    rests = part-after at_alpha0 476 b x w (omega arith) (omega arith) ∙ c.rests;
    lanes = λ e k he hk. vec-place-before b x w _ (omega arith) ∙ c.lanes e k he hk;
    points = λ e he. vec-place-before b x w _ (omega arith) ∙ c.points e he;
  }

  pub evaluated-behind : (b : ℕ) (x : List ℕ) → 29248 ≤ b → b + length x ≤ 41601 → Evaluated salt paths outs sents a1 i 17 (place b x w)
  evaluated-behind b x p q = record {
    hashes = part-after at_hashes 544 b x w (omega arith) (omega arith) ∙ c.hashes;
    rests = part-after at_alpha0 476 b x w (omega arith) (omega arith) ∙ c.rests;
    lanes = λ e k he hk. vec-place-before b x w _ (omega arith) ∙ c.lanes e k he hk;
    points = λ e he. vec-place-before b x w _ (omega arith) ∙ c.points e he;
  }

  pub committed-are : length sents ≡ 204 → part at_hashes 748 (place at_sent sents w) ≡ joined 17 (λ e. hash_ls_com (lscom_in salt paths outs e (i e))) ++ sents
  committed-are ls =
      part-add at_hashes 544 204 (place at_sent sents w)
      ∙ ap₂ ◌++◌ (part-before at_hashes 544 at_sent sents w (omega arith) (omega arith) ∙ c.hashes) (part-place at_sent 204 sents w ls (omega arith))

-- ---- the lane of a repetition: x, and then the point r

pub placed : (d m v x : List ℕ) (e r : ℕ) → e < 17 → length m ≡ 10944 → Put d 56 (λ k. 192 * k + e) (vec x) m → v ≡ set m (10752 + e) r
    → Placed d e x r v
placed d m v x e r he lm put q = record {
  values = λ k hk. away (192 * k + e) (λ z. omega arith) ∙ put.here k hk;
  point-is = ap (λ (l : List ℕ). vec l (192 * 56 + e)) q ∙ get_or-set_same m (10752 + e) r 0 (omega arith);
  others = λ k l hk hl ne. away (192 * k + l) (λ z. ne (omega arith)) ∙ put.others (192 * k + l) (λ j hj z. ne (omega arith));
}
  where
    away : (j : ℕ) → (j ≡ 10752 + e → ⊥) → vec v j ≡ vec m j
    away j ne = ap (λ (l : List ℕ). vec l j) q ∙ get_or-set_other m (10752 + e) j r 0 ne
