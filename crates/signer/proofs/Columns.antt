-- A packed equation added to all result lines: what stands in the workspace after the writes of result_one. Assumes nothing.
use mathlib.Core.Path.{◌≡◌, sym, ap, ap₂, subst, ◌∙◌}
use mathlib.Core.List.{List, []}
use Prim.Native.Nat.{ℕ, ◌+◌, ◌*◌, ◌<◌}
use native.Mathlib.Omega.{arith}
use borrow.Author.Count.{below_more}
use lib.Bits.{bit_xor, bit_or}
use lib.Dec.{eqb}
use lib.ListN.{length}
use Rattle.octets.specs.Xor.{◌⊕◌}
use Rattle.octets.specs.Lists.{vec, part}
use Rattle.octets.specs.Place.{place}
use Rattle.octets.proofs.Tab.{vec-tab}
use Rattle.octets.proofs.Part.{vec-part}
use Rattle.octets.proofs.Alike.{Gathered, gathered-turn, gathered-end}
use Rattle.octets.proofs.Place.{length-place}
use Rattle.octets.proofs.Frame.{vec-place, vec-place-before, vec-place-after}
use Rattle.field.specs.Vec.{lifted}
use Rattle.algebra.specs.Line.{equation_in, form, z0, z1}
use Rattle.algebra.proofs.Equation.{z0-ext, z1-ext, form-ext}
use Rattle.paper.specs.Keys.{rows, equation, values_at, mseed_eq_of, y_of}
use Rattle.paper.proofs.Keys.{length-y_of}
use Rattle.equations.specs.Lanes.{Masks, OnLines}
use Rattle.equations.specs.Put.{Put}
use Rattle.workspace.specs.Map.{at_vectors, at_alpha0, at_alpha1}
use Rattle.signer.specs.State.{Within, Vectors, Resulted, Adds, AddsAll}
use Rattle.paper.proofs.Keys.{length-values_at}
use Rattle.workspace.proofs.Lent.{Lent}
use Rattle.signer.proofs.Within.{within-place, within_more, within-before}

-- ---- a column of 17 rows of 28 bytes

module _ (i : ℕ) (a b z : List ℕ) (hi : i < 28) (put : Put a 17 (λ e. 28 * e + i) (λ e. vec a (28 * e + i) ⊕ vec z e) b) where
  column-here : (e : ℕ) → e < 17 → vec b (28 * e + i) ≡ vec a (28 * e + i) ⊕ vec z e
  column-here e he = put.here e he

  column-other : (e j : ℕ) → j < 28 → (j ≡ i → ⊥) → vec b (28 * e + j) ≡ vec a (28 * e + j)
  column-other e j hj ne = put.others (28 * e + j) (λ k hk q. ne (omega arith))

-- ---- the values of an equation on the lanes

module _ (m x q f g : List ℕ) (i : ℕ) (x0 v : ℕ → ℕ → ℕ) (eq : q ≡ rows m i) (lanes : Vectors x x0 v) (on : OnLines q v f g) where
  value0 : (e : ℕ) → e < 17 → vec f e ≡ z0 56 (equation m [] i) (x0 e)
  unfolding equation
  value0 e he =
      on.z0-is e (omega arith) (lanes.points e he)
      ∙ ap (λ (l : List ℕ). z0 56 (equation_in 56 l 0 0) (λ k. v k e)) eq
      ∙ z0-ext 56 (equation_in 56 (rows m i) 0 0) (λ k. v k e) (x0 e) (λ k hk. lanes.lines e k he hk)

  value1 : (e : ℕ) → e < 17 → vec g e ≡ z1 56 (equation m [] i) (lifted x) (x0 e)
  unfolding equation
  value1 e he =
      on.z1-is e (omega arith) (lanes.points e he) lanes.point
      ∙ ap (λ (l : List ℕ). z1 56 (equation_in 56 l 0 0) (λ k. v k 17) (λ k. v k e)) eq
      ∙ z1-ext 56 (equation_in 56 (rows m i) 0 0) (λ k. v k 17) (lifted x) (λ k. v k e) (x0 e) lanes.own (λ k hk. lanes.lines e k he hk)

  pub own_value : i < 28 → vec f 17 ≡ vec (values_at m x) i
  unfolding equation values_at
  own_value hi =
      on.own lanes.point
      ∙ ap (λ (l : List ℕ). form 56 (equation_in 56 l 0 0) (λ k. v k 17)) eq
      ∙ form-ext 56 (equation_in 56 (rows m i) 0 0) (λ k. v k 17) (lifted x) lanes.own
      ∙ sym (vec-tab 28 (λ i. form 56 (equation m [] i) (lifted x)) i hi)

  pub differs : (pk : List ℕ) → i < 28 → bit_xor (vec f 17) (vec pk (32 + i)) ≡ bit_xor (vec (values_at m x) i) (vec (y_of pk) i)
  unfolding y_of
  differs pk hi = ap₂ bit_xor (own_value hi) (sym (vec-part 32 28 pk i hi))

-- ---- the workspace w with a in the place of α_0, and then b in that of α_1

abbrev w1 : List ℕ → List ℕ → List ℕ
w1 w a = place at_alpha0 a w

abbrev w2 : List ℕ → List ℕ → List ℕ → List ℕ
w2 w a b = place at_alpha1 b (w1 w a)

module _ (i : ℕ) (w a b : List ℕ) (hi : i < 28) (hw : length w ≡ 65536) (la : length a ≡ 476) (lb : length b ≡ 476) where
  pub resulted-within : Within 42401 952 w (w2 w a b)
  resulted-within =
      within_more 42401 952 w (w1 w a) at_alpha1 b (within-place 42401 952 at_alpha0 a w (omega arith) (omega arith)) (omega arith) (omega arith)

  in0 : (k : ℕ) → k < 476 → vec (w2 w a b) (at_alpha0 + k) ≡ vec a k
  in0 k hk = vec-place-before at_alpha1 b (w1 w a) (at_alpha0 + k) (omega arith) ∙ vec-place at_alpha0 a w k (omega arith) (omega arith)

  in1 : (k : ℕ) → k < 476 → vec (w2 w a b) (at_alpha1 + k) ≡ vec b k
  in1 k hk = vec-place at_alpha1 b (w1 w a) k (omega arith) (omega (arith, length-place at_alpha0 a w))

  -- what α_1 was
  was1 : (k : ℕ) → k < 476 → vec (part at_alpha1 476 (w1 w a)) k ≡ vec w (at_alpha1 + k)
  was1 k hk = vec-part at_alpha1 476 (w1 w a) k hk ∙ vec-place-after at_alpha0 a w (at_alpha1 + k) (omega arith)

  module _ (m x q f g : List ℕ) (x0 u0 u1 v : ℕ → ℕ → ℕ) (eq : q ≡ rows m i) (lanes : Vectors x x0 v) (on : OnLines q v f g)
      (put0 : Put (part at_alpha0 476 w) 17 (λ e. 28 * e + i) (λ e. vec (part at_alpha0 476 w) (28 * e + i) ⊕ vec f e) a)
      (put1 : Put (part at_alpha1 476 (w1 w a)) 17 (λ e. 28 * e + i) (λ e. vec (part at_alpha1 476 (w1 w a)) (28 * e + i) ⊕ vec g e) b)
      (r : Resulted m x x0 u0 u1 i w) where
    kept0 : (e j : ℕ) → e < 17 → j < 28 → (j ≡ i → ⊥) → vec (w2 w a b) (at_alpha0 + (28 * e + j)) ≡ vec w (at_alpha0 + (28 * e + j))
    kept0 e j he hj ne =
        in0 (28 * e + j) (omega arith) ∙ column-other i (part at_alpha0 476 w) a f hi put0 e j hj ne ∙ vec-part at_alpha0 476 w (28 * e + j) (omega arith)

    kept1 : (e j : ℕ) → e < 17 → j < 28 → (j ≡ i → ⊥) → vec (w2 w a b) (at_alpha1 + (28 * e + j)) ≡ vec w (at_alpha1 + (28 * e + j))
    kept1 e j he hj ne =
        in1 (28 * e + j) (omega arith) ∙ column-other i (part at_alpha1 476 (w1 w a)) b g hi put1 e j hj ne ∙ was1 (28 * e + j) (omega arith)

    here0 : (e : ℕ) → e < 17 → vec (w2 w a b) (at_alpha0 + (28 * e + i)) ≡ u0 e i ⊕ z0 56 (equation m [] i) (x0 e)
    here0 e he =
        in0 (28 * e + i) (omega arith)
        ∙ column-here i (part at_alpha0 476 w) a f hi put0 e he
        ∙ ap₂ ◌⊕◌ (vec-part at_alpha0 476 w (28 * e + i) (omega arith) ∙ r.left0 e i he (omega arith) hi) (value0 m x q f g i x0 v eq lanes on e he)

    here1 : (e : ℕ) → e < 17 → vec (w2 w a b) (at_alpha1 + (28 * e + i)) ≡ u1 e i ⊕ z1 56 (equation m [] i) (lifted x) (x0 e)
    here1 e he =
        in1 (28 * e + i) (omega arith)
        ∙ column-here i (part at_alpha1 476 (w1 w a)) b g hi put1 e he
        ∙ ap₂ ◌⊕◌ (was1 (28 * e + i) (omega arith) ∙ r.left1 e i he (omega arith) hi) (value1 m x q f g i x0 v eq lanes on e he)

    pub resulted-turn : Resulted m x x0 u0 u1 (i + 1) (w2 w a b)
    resulted-turn = record {
      done0 = λ e j he hj. below_more (λ (j : ℕ). vec (w2 w a b) (at_alpha0 + (28 * e + j)) ≡ u0 e j ⊕ z0 56 (equation m [] j) (x0 e)) i (λ j l. kept0 e j he (omega arith) (λ q. omega arith) ∙ r.done0 e j he l) (here0 e he) j hj;
      done1 = λ e j he hj. below_more (λ (j : ℕ). vec (w2 w a b) (at_alpha1 + (28 * e + j)) ≡ u1 e j ⊕ z1 56 (equation m [] j) (lifted x) (x0 e)) i (λ j l. kept1 e j he (omega arith) (λ q. omega arith) ∙ r.done1 e j he l) (here1 e he) j hj;
      left0 = λ e j he l hj. kept0 e j he hj (λ q. omega arith) ∙ r.left0 e j he (omega arith) hj;
      left1 = λ e j he l hj. kept1 e j he hj (λ q. omega arith) ∙ r.left1 e j he (omega arith) hj;
    }

-- ---- the same, from what the code leaves: α_0, p, came back as a, and α_1, q, as b

module _ (i : ℕ) (w p a y q b z : List ℕ) (hi : i < 28) (hw : length w ≡ 65536) (l : Lent at_alpha0 476 w p a y) (k : Lent at_alpha1 476 y q b z) where
  both : w2 w a b ≡ z
  both = sym (k.after ∙ ap (place at_alpha1 b) l.after)

  pub one-within : Within 42401 952 w z
  one-within = subst (Within 42401 952 w) both (resulted-within i w a b hi hw l.size k.size)

  column : (f c : List ℕ) {s t : List ℕ} → s ≡ t → Put s 17 (λ e. 28 * e + i) (λ e. vec s (28 * e + i) ⊕ vec f e) c
      → Put t 17 (λ e. 28 * e + i) (λ e. vec t (28 * e + i) ⊕ vec f e) c
  column f c e put = subst (λ (s : List ℕ). Put s 17 (λ e. 28 * e + i) (λ e. vec s (28 * e + i) ⊕ vec f e) c) e put

  -- the equation r, worked on the vectors s
  pub one-adds : (pk r s f g : List ℕ) → r ≡ rows (mseed_eq_of pk) i → s ≡ part at_vectors 10944 w → ((v : ℕ → ℕ → ℕ) → Masks s v → OnLines r v f g)
      → Put p 17 (λ e. 28 * e + i) (λ e. vec p (28 * e + i) ⊕ vec f e) a
      → Put q 17 (λ e. 28 * e + i) (λ e. vec q (28 * e + i) ⊕ vec g e) b
      → Adds pk i w (bit_xor (vec f 17) (vec pk (32 + i))) z
  one-adds pk r s f g er es on put0 put1 = record {
    columns = λ x x0 u0 u1 v lanes masks c.
        subst (Resulted (mseed_eq_of pk) x x0 u0 u1 (i + 1)) both
        (resulted-turn i w a b hi hw l.size k.size (mseed_eq_of pk) x r f g x0 u0 u1 v er lanes (there v masks)
        (column f a l.was put0) (column g b (k.was ∙ ap (part at_alpha1 476) l.after) put1) c);
    differs = λ x x0 v lanes masks. differs (mseed_eq_of pk) x r f g i x0 v er lanes (there v masks) pk hi;
  }
    where
      there : (v : ℕ → ℕ → ℕ) → Masks (part at_vectors 10944 w) v → OnLines r v f g
      there v masks = on v (subst (λ (t : List ℕ). Masks t v) (sym es) masks)

-- ---- one equation after the other

-- before turn i: what stands in w, of w₀ at the start, and what d has gathered
pub record Sums (pk w₀ : List ℕ) (i : ℕ) (w : List ℕ) (d : ℕ) : Type 0 where
  pub columns : (x : List ℕ) (x0 u0 u1 v : ℕ → ℕ → ℕ) → Vectors x x0 v → Masks (part at_vectors 10944 w₀) v
      → Resulted (mseed_eq_of pk) x x0 u0 u1 0 w₀
      → Resulted (mseed_eq_of pk) x x0 u0 u1 i w
  pub gathered : (x : List ℕ) (x0 v : ℕ → ℕ → ℕ) → Vectors x x0 v → Masks (part at_vectors 10944 w₀) v → Gathered (values_at (mseed_eq_of pk) x) (y_of pk) i d

pub sums-turn : (pk w₀ w w' : List ℕ) (i d r : ℕ) → length w₀ ≡ 65536 → Within 42401 952 w₀ w → Sums pk w₀ i w d → Adds pk i w r w' → Sums pk w₀ (i + 1) w' (bit_or d r)
sums-turn pk w₀ w w' i d r h t s a = record {
  columns = λ x x0 u0 u1 v l m k. a.columns x x0 u0 u1 v l (same v m) (s.columns x x0 u0 u1 v l m k);
  gathered = λ x x0 v l m.
      rw (a.differs x x0 v l (same v m)) (gathered-turn (values_at (mseed_eq_of pk) x) (y_of pk) i d (s.gathered x x0 v l m));
}
  where
    same : (v : ℕ → ℕ → ℕ) → Masks (part at_vectors 10944 w₀) v → Masks (part at_vectors 10944 w) v
    same v m = subst (λ (l : List ℕ). Masks l v) (sym (within-before 42401 952 w₀ w t at_vectors 10944 (omega arith) (omega arith))) m

pub sums-end : (pk w₀ w : List ℕ) (i d : ℕ) → length pk ≡ 60 → i ≡ 28 → Sums pk w₀ i w d → AddsAll pk w₀ (eqb d 0) w
sums-end pk w₀ w i d hp e s = record {
  columns = λ x x0 u0 u1 v l m r. subst (λ (n : ℕ). Resulted (mseed_eq_of pk) x x0 u0 u1 n w) e (s.columns x x0 u0 u1 v l m r);
  agrees = λ x x0 v l m. gathered-end (values_at (mseed_eq_of pk) x) (y_of pk) i d (values x ∙ sym (length-y_of pk hp)) (omega (arith, values x)) (s.gathered x x0 v l m);
}
  where
    values : (x : List ℕ) → length (values_at (mseed_eq_of pk) x) ≡ 28
    values x = length-values_at (mseed_eq_of pk) x
