-- The packed equations at the opened points, one after the other (algorithm 8): what stands in the workspace before them, after the writes of
-- recompute_one, and in the end. Assumes nothing.
use mathlib.Core.Path.{◌≡◌, sym, ap, ap₂, ◌∙◌}
use mathlib.Core.List.{List, ◌++◌}
use Prim.Native.Nat.{ℕ, ◌+◌, ◌*◌, ◌<◌}
use native.Mathlib.Omega.{arith}
use borrow.Author.Count.{below_more}
use lib.ListN.{length}
use Rattle.octets.specs.Xor.{◌⊕◌}
use Rattle.octets.specs.Lists.{vec, tab, part, joined}
use Rattle.octets.specs.Place.{place}
use Rattle.octets.proofs.Xor.{⊕-assoc, ⊕-comm}
use Rattle.octets.proofs.Tab.{vec-tab}
use Rattle.octets.proofs.Part.{vec-part}
use Rattle.octets.proofs.Place.{length-place}
use Rattle.octets.proofs.Frame.{vec-place, vec-place-after, part-before, part-place, part-add, vec-joined}
use Rattle.field.specs.Gf.{◌⊗◌}
use Rattle.field.proofs.Field.{⊗-comm}
use Rattle.algebra.specs.Folding.{point}
use Rattle.algebra.specs.Line.{equation_in, z_at, batch}
use Rattle.algebra.proofs.Equation.{z_at-ext}
use Rattle.paper.specs.Keys.{rows, equation, mseed_eq_of, y_of}
use Rattle.paper.specs.Commit.{x_eval, u_eval}
use Rattle.paper.specs.Alpha.{r3, alpha0_in}
use Rattle.seeds.specs.Expanded.{plain_keys}
use Rattle.equations.specs.Lanes.{lane, Masks}
use Rattle.equations.specs.Put.{Put}
use Rattle.workspace.specs.Map.{at_vectors, at_alpha0, at_alpha1}
use Rattle.workspace.proofs.Rows.{rows_are}
use Rattle.checker.specs.State.{rest_of, Evaluated, Vectors, Recomputed}
use Rattle.checker.proofs.Evaluating.{length-rest_of}

-- ---- one equation

module _ (pk q z : List ℕ) (i : ℕ) (x : ℕ → ℕ → ℕ) (p : ℕ → ℕ) (v : ℕ → ℕ → ℕ) (y : ℕ) (hi : i < 28) (eq : q ≡ rows (mseed_eq_of pk) i) (ey : y ≡ vec pk (32 + i))
    (lanes : Vectors x p v) (ez : z ≡ tab 24 (λ l. z_at 56 (equation_in 56 q 0 y) (λ k. v k l) (v 56 l))) where
  value-at : (e : ℕ) → e < 17 → vec z e ≡ z_at 56 (equation (mseed_eq_of pk) (y_of pk) i) (x e) (p e)
  unfolding equation y_of
  value-at e he =
      ap (λ (l : List ℕ). vec l e) ez
      ∙ vec-tab 24 _ e (omega arith)
      ∙ ap₂ (λ (l : List ℕ) (c : ℕ). z_at 56 (equation_in 56 l 0 c) (λ k. v k e) (v 56 e)) eq (ey ∙ sym (vec-part 32 28 pk i hi))
      ∙ z_at-ext 56 (equation_in 56 (rows (mseed_eq_of pk) i) 0 (vec (part 32 28 pk) i)) (λ k. v k e) (x e) (λ k hk. lanes.values e k he hk) (v 56 e)
      ∙ ap (z_at 56 (equation_in 56 (rows (mseed_eq_of pk) i) 0 (vec (part 32 28 pk) i)) (x e)) (lanes.points e he)

  module _ (w a : List ℕ) (rest : ℕ → ℕ → ℕ) (hw : length w ≡ 65536) (la : length a ≡ 476)
      (put : Put (part at_alpha0 476 w) 17 (λ e. 28 * e + i) (λ e. vec (part at_alpha0 476 w) (28 * e + i) ⊕ vec z e) a)
      (r : Recomputed pk x p rest v i w) where
    now-is : (k : ℕ) → k < 476 → vec (place at_alpha0 a w) (at_alpha0 + k) ≡ vec a k
    now-is k hk = vec-place at_alpha0 a w k (omega arith) (omega arith)

    other : (e j : ℕ) → e < 17 → j < 28 → (j ≡ i → ⊥) → vec (place at_alpha0 a w) (at_alpha0 + (28 * e + j)) ≡ vec w (at_alpha0 + (28 * e + j))
    other e j he hj ne =
        now-is (28 * e + j) (omega arith)
        ∙ put.others (28 * e + j) (λ k hk q. ne (omega arith))
        ∙ vec-part at_alpha0 476 w (28 * e + j) (omega arith)

    here : (e : ℕ) → e < 17 → vec (place at_alpha0 a w) (at_alpha0 + (28 * e + i)) ≡ rest e i ⊕ z_at 56 (equation (mseed_eq_of pk) (y_of pk) i) (x e) (p e)
    here e he =
        now-is (28 * e + i) (omega arith)
        ∙ put.here e he
        ∙ ap₂ ◌⊕◌ (vec-part at_alpha0 476 w (28 * e + i) (omega arith) ∙ r.left e i he (omega arith) hi) (value-at e he)

    pub recomputed-turn : Recomputed pk x p rest v (i + 1) (place at_alpha0 a w)
    recomputed-turn = record {
      masks = rw (part-before at_vectors 10944 at_alpha0 a w (omega arith) (omega arith)) r.masks;
      done = λ e j he hj. below_more (λ (j : ℕ). vec (place at_alpha0 a w) (at_alpha0 + (28 * e + j)) ≡ rest e j ⊕ z_at 56 (equation (mseed_eq_of pk) (y_of pk) j) (x e) (p e)) i (λ j l. other e j he (omega arith) (λ q. omega arith) ∙ r.done e j he l) (here e he) j hj;
      left = λ e j he l hj. other e j he hj (λ q. omega arith) ∙ r.left e j he (omega arith) hj;
    }

pub keys-apart : (w a : List ℕ) → length w ≡ 65536 → part 0 18304 (place at_alpha0 a w) ≡ part 0 18304 w
keys-apart w a hw = part-before 0 18304 at_alpha0 a w (omega arith) (omega arith)

-- ---- before them: the keys k and the masks y are written

pub keys_in : (w k y : List ℕ) → length w ≡ 65536 → length k ≡ 18304 → length y ≡ 10944 → part 0 18304 (place at_vectors y (place 0 k w)) ≡ k
keys_in w k y hw lk ly =
    part-before 0 18304 at_vectors y (place 0 k w) (omega arith) (omega (arith, length-place 0 k w)) ∙ part-place 0 18304 k w lk (omega arith)

module _ (salt paths outs sents a1 : List ℕ) (i : ℕ → ℕ) (w k : List ℕ) (hw : length w ≡ 65536) (lk : length k ≡ 18304)
    (c : Evaluated salt paths outs sents a1 i 17 w) where
  before : (n : ℕ) → n < 10944 → vec (part at_vectors 10944 (place 0 k w)) n ≡ vec w (at_vectors + n)
  before n hn = vec-part at_vectors 10944 (place 0 k w) n hn ∙ vec-place-after 0 k w (at_vectors + n) (omega arith)

  pub vectors-in : Vectors (λ e. x_eval 28 salt paths sents e (i e)) (λ e. point (i e)) (lane (part at_vectors 10944 (place 0 k w)))
  vectors-in = record {
    values = λ e j he hj. before (192 * j + e) (omega arith) ∙ c.lanes e j he hj;
    points = λ e he. before (192 * 56 + e) (omega arith) ∙ c.points e he;
  }

module _ (salt paths outs sents a1 : List ℕ) (i : ℕ → ℕ) (w k y : List ℕ) (hw : length w ≡ 65536) (lk : length k ≡ 18304) (ly : length y ≡ 10944)
    (c : Evaluated salt paths outs sents a1 i 17 w) where
  abbrev rest_at : ℕ → ℕ → ℕ
  rest_at e j = u_eval 28 salt paths sents e (i e) j ⊕ (point (i e) ⊗ vec (part (28 * e) 28 a1) j)

  rest-is : (e j : ℕ) → e < 17 → j < 28 → vec (place at_vectors y (place 0 k w)) (at_alpha0 + (28 * e + j)) ≡ rest_at e j
  unfolding rest_of
  rest-is e j he hj =
      vec-place-after at_vectors y (place 0 k w) (at_alpha0 + (28 * e + j)) (omega arith)
      ∙ vec-place-after 0 k w (at_alpha0 + (28 * e + j)) (omega arith)
      ∙ sym (vec-part at_alpha0 476 w (28 * e + j) (omega arith))
      ∙ ap (λ (l : List ℕ). vec l (28 * e + j)) c.rests
      ∙ vec-joined 17 28 (λ e. rest_of (tab 28 (u_eval 28 salt paths sents e (i e))) (part (28 * e) 28 a1) (point (i e)))
      (λ e he. length-rest_of (tab 28 (u_eval 28 salt paths sents e (i e))) (part (28 * e) 28 a1) (point (i e))) e j he hj
      ∙ vec-tab 28 _ j hj
      ∙ ap (λ (u : ℕ). u ⊕ (point (i e) ⊗ vec (part (28 * e) 28 a1) j)) (vec-tab 28 (u_eval 28 salt paths sents e (i e)) j hj)

  pub recomputed-none : (pk : List ℕ) → Masks y (lane (part at_vectors 10944 (place 0 k w)))
      → Recomputed pk (λ e. x_eval 28 salt paths sents e (i e)) (λ e. point (i e)) rest_at (lane (part at_vectors 10944 (place 0 k w))) 0 (place at_vectors y (place 0 k w))
  recomputed-none pk m = record {
    masks = rw (part-place at_vectors 10944 y (place 0 k w) ly (omega (arith, length-place 0 k w))) m;
    done = λ e j he hj. absurd (omega arith);
    left = λ e j he l hj. rest-is e j he hj;
  }

-- ---- in the end

order : (u z r a : ℕ) → (u ⊕ (r ⊗ a)) ⊕ z ≡ (u ⊕ z) ⊕ (a ⊗ r)
order u z r a =
    ⊕-assoc u (r ⊗ a) z ∙ ap (u ⊕◌) (⊕-comm (r ⊗ a) z ∙ ap (z ⊕◌) (⊗-comm r a)) ∙ sym (⊕-assoc u z (a ⊗ r))

module _ (pk c1 salt paths sents a1 : List ℕ) (i : ℕ → ℕ) (v : ℕ → ℕ → ℕ) (w : List ℕ) (hw : length w ≡ 65536)
    (r : Recomputed pk (λ e. x_eval 28 salt paths sents e (i e)) (λ e. point (i e)) (λ e j. u_eval 28 salt paths sents e (i e) j ⊕ (point (i e) ⊗ vec (part (28 * e) 28 a1) j)) v 28 w) where
  pub alphas-are : part at_alpha0 476 w ≡ joined 17 (alpha0_in r3 c1 (mseed_eq_of pk) (y_of pk) salt paths sents a1 i)
  unfolding alpha0_in batch
  alphas-are =
      rows_are at_alpha0 w
      (λ e j. (u_eval 28 salt paths sents e (i e) j ⊕ z_at 56 (equation (mseed_eq_of pk) (y_of pk) j) (x_eval 28 salt paths sents e (i e)) (point (i e))) ⊕ (vec (part (28 * e) 28 a1) j ⊗ point (i e)))
      (omega arith)
      (λ e j he hj. r.done e j he hj ∙ order (u_eval 28 salt paths sents e (i e) j) (z_at 56 (equation (mseed_eq_of pk) (y_of pk) j) (x_eval 28 salt paths sents e (i e)) (point (i e))) (point (i e)) (vec (part (28 * e) 28 a1) j))

  pub hashed-are : length a1 ≡ 476
      → part at_alpha0 952 (place at_alpha1 a1 w) ≡ joined 17 (alpha0_in r3 c1 (mseed_eq_of pk) (y_of pk) salt paths sents a1 i) ++ a1
  hashed-are la =
      part-add at_alpha0 476 476 (place at_alpha1 a1 w)
      ∙ ap₂ ◌++◌ (part-before at_alpha0 476 at_alpha1 a1 w (omega arith) (omega arith) ∙ alphas-are) (part-place at_alpha1 476 a1 w la (omega arith))

-- ---- before turn n of the loop

pub record RecomputedTo (pk start : List ℕ) (n : ℕ) (w : List ℕ) : Type 0 where
  pub keys : part 0 18304 w ≡ plain_keys
  pub adds : (x : ℕ → ℕ → ℕ) (p : ℕ → ℕ) (rest v : ℕ → ℕ → ℕ) → Vectors x p v → Recomputed pk x p rest v 0 start → Recomputed pk x p rest v n w
