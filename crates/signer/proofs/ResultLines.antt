-- From the committed lines to the result lines: where ComputePAlpha (algorithm 6) starts, and what it ends with. Assumes nothing.
use mathlib.Core.Path.{◌≡◌, sym, ap, subst, ◌∙◌}
use mathlib.Core.Bool.{Bool}
use mathlib.Core.List.{List}
use Prim.Native.Nat.{ℕ, ◌+◌, ◌*◌, ◌<◌, ◌≤◌}
use native.Mathlib.Omega.{arith}
use lib.ListN.{length}
use Rattle.octets.specs.Lists.{vec, tab, part, joined, alike}
use Rattle.octets.specs.Place.{place}
use Rattle.octets.proofs.Tab.{length-tab, vec-tab}
use Rattle.octets.proofs.Part.{vec-part}
use Rattle.octets.proofs.Place.{length-place}
use Rattle.octets.proofs.Frame.{vec-joined, part-place}
use Rattle.algebra.specs.Line.{batch}
use Rattle.paper.specs.Keys.{equation, values_at, public_of, solution_of, mseed_eq_of, y_of, satisfied}
use Rattle.paper.specs.Commit.{u0_at, u1_at, x0_at}
use Rattle.paper.specs.Alpha.{r3, alpha0_at, alpha1_at}
use Rattle.paper.specs.Scheme.{sign_alpha0, sign_alpha1}
use Rattle.equations.specs.Lanes.{lane, Masks}
use Rattle.equations.specs.Put.{Own}
use Rattle.workspace.specs.Map.{at_vectors, at_hashes, at_sent, at_alpha0, at_alpha1, at_roots}
use Rattle.signer.specs.State.{Within, Committed, Vectors, Resulted, AddsAll, Prepared}
use Rattle.workspace.proofs.Lent.{Lent, length-after}
use Rattle.workspace.proofs.Rows.{rows_are}
use Rattle.signer.proofs.Within.{within-place, within_more, within-before, within-behind}

-- ---- where it starts: the vectors v with the solution in lane 17, and then their masks y

abbrev s2 : List ℕ → List ℕ → List ℕ → List ℕ
s2 w v y = place at_vectors y (place at_vectors v w)

module _ (w v y : List ℕ) (hw : length w ≡ 65536) (lv : length v ≡ 10944) (ly : length y ≡ 10944) where
  changed : Within 18304 10944 w (s2 w v y)
  changed =
      within_more 18304 10944 w (place at_vectors v w) at_vectors y
      (within-place 18304 10944 at_vectors v w (omega arith) (omega arith)) (omega arith) (omega arith)

  keys_kept : part 0 18304 (s2 w v y) ≡ part 0 18304 w
  keys_kept = within-before 18304 10944 w (s2 w v y) changed 0 18304 (omega arith) (omega arith)

  behind : (a n : ℕ) → 29248 ≤ a → a + n ≤ 65536 → part a n (s2 w v y) ≡ part a n w
  behind a n p q = within-behind 18304 10944 w (s2 w v y) changed a n p (omega arith)

  masks-in : Masks y (lane v) → Masks (part at_vectors 10944 (s2 w v y)) (lane v)
  masks-in k = rw (part-place at_vectors 10944 y (place at_vectors v w) ly (omega (arith, length-place at_vectors v w))) k

module _ (m salt x w v y : List ℕ) (hw : length w ≡ 65536) (lv : length v ≡ 10944) (ly : length y ≡ 10944) (c : Committed m salt x 17 w) where
  vectors-in : Own x (part at_vectors 10944 w) v → Vectors x (x0_at 28 m salt x) (lane v)
  vectors-in own = record {
    lines = λ e k he hk. own.others (192 * k + e) (omega arith) (λ j hj q. omega arith) ∙ vec-part at_vectors 10944 w (192 * k + e) (omega arith) ∙ c.lanes e k he hk;
    own = own.solution;
    points = λ e he. own.points e (omega arith) (λ q. omega arith);
    point = own.point;
  }

  mask_at : (a : ℕ) (u : ℕ → ℕ → ℕ) → 29248 ≤ a → a + 476 ≤ 65536 → part a 476 w ≡ joined 17 (λ e. tab 28 (u e)) → (e j : ℕ) → e < 17 → j < 28
      → vec (s2 w v y) (a + (28 * e + j)) ≡ u e j
  mask_at a u p q h e j he hj =
      sym (vec-part a 476 (s2 w v y) (28 * e + j) (omega arith))
      ∙ ap (λ (l : List ℕ). vec l (28 * e + j)) (behind w v y hw lv ly a 476 p q ∙ h)
      ∙ vec-joined 17 28 (λ e. tab 28 (u e)) (λ e he. length-tab 28 (u e)) e j he hj
      ∙ vec-tab 28 (u e) j hj

  resulted-none : (mseed_eq : List ℕ) → Resulted mseed_eq x (x0_at 28 m salt x) (u0_at 28 m salt x) (u1_at 28 m salt x) 0 (s2 w v y)
  resulted-none mseed_eq = record {
    done0 = λ e j he hj. absurd (omega arith);
    done1 = λ e j he hj. absurd (omega arith);
    left0 = λ e j he l hj. mask_at at_alpha0 (u0_at 28 m salt x) (omega arith) (omega arith) c.masks0 e j he hj;
    left1 = λ e j he l hj. mask_at at_alpha1 (u1_at 28 m salt x) (omega arith) (omega arith) c.masks1 e j he hj;
  }

-- ---- what it ends with

module _ (sk salt m w : List ℕ) (hw : length w ≡ 65536)
    (r : Resulted (mseed_eq_of (public_of sk)) (solution_of sk) (x0_at 28 m salt (solution_of sk)) (u0_at 28 m salt (solution_of sk)) (u1_at 28 m salt (solution_of sk)) 28 w) where
  alphas0-are : part at_alpha0 476 w ≡ joined 17 (sign_alpha0 r3 sk salt m)
  unfolding sign_alpha0 alpha0_at equation batch
  alphas0-are = rows_are at_alpha0 w _ (omega arith) (λ e j he hj. r.done0 e j he hj)

  alphas1-are : part at_alpha1 476 w ≡ joined 17 (sign_alpha1 r3 sk salt m)
  unfolding sign_alpha1 alpha1_at equation batch
  alphas1-are = rows_are at_alpha1 w _ (omega arith) (λ e j he hj. r.done1 e j he hj)

-- all of it: u is the workspace after the equations
prepared : (sk salt m w v y u : List ℕ) (ok : Bool) → length w ≡ 65536 → length v ≡ 10944 → length y ≡ 10944
    → Committed m salt (solution_of sk) 17 w
    → Within 42401 952 (s2 w v y) u
    → Resulted (mseed_eq_of (public_of sk)) (solution_of sk) (x0_at 28 m salt (solution_of sk)) (u0_at 28 m salt (solution_of sk)) (u1_at 28 m salt (solution_of sk)) 28 u
    → ok ≡ alike (values_at (mseed_eq_of (public_of sk)) (solution_of sk)) (y_of (public_of sk))
    → Prepared sk salt m ok u
unfolding satisfied
prepared sk salt m w v y u ok hw lv ly c t r h = record {
  holds = h;
  roots = λ e he. after (at_roots + 16 * e) 16 (omega arith) (omega arith) ∙ c.roots e he;
  hashes = before at_hashes 544 (omega arith) (omega arith) ∙ c.hashes;
  sents = before at_sent 204 (omega arith) (omega arith) ∙ c.sents;
  alphas0 = alphas0-are sk salt m u lu r;
  alphas1 = alphas1-are sk salt m u lu r;
}
  where
    ls : length (s2 w v y) ≡ 65536
    ls = length-place at_vectors y (place at_vectors v w) ∙ length-place at_vectors v w ∙ hw

    lu : length u ≡ 65536
    lu = t.size ∙ ls

    before : (a n : ℕ) → 29248 ≤ a → a + n ≤ 42401 → part a n u ≡ part a n w
    before a n p q =
        within-before 42401 952 (s2 w v y) u t a n q (omega (arith, ls))
        ∙ behind w v y hw lv ly a n p (omega arith)

    after : (a n : ℕ) → 43353 ≤ a → a + n ≤ 65536 → part a n u ≡ part a n w
    after a n p q =
        within-behind 42401 952 (s2 w v y) u t a n p (omega (arith, ls))
        ∙ behind w v y hw lv ly a n (omega arith) q

-- ---- the same, from what the code leaves: of the vectors p came back as v, and q as y

module _ (w p v w1 q y w2 : List ℕ) (hw : length w ≡ 65536) (g : Lent at_vectors 10944 w p v w1) (h : Lent at_vectors 10944 w1 q y w2) where
  both : w2 ≡ s2 w v y
  both = h.after ∙ ap (place at_vectors y) g.after

  pub length_both : length w2 ≡ 65536
  length_both = length-after h ∙ length-after g ∙ hw

  pub keys-stay : part 0 18304 w2 ≡ part 0 18304 w
  keys-stay = ap (part 0 18304) both ∙ keys_kept w v y hw g.size h.size

  spread : q ≡ v
  spread = h.was ∙ ap (part at_vectors 10944) g.after ∙ part-place at_vectors 10944 v w g.size (omega arith)

  pub all-prepared : (sk u : List ℕ) (ok : Bool) → Own (solution_of sk) p v → Masks y (lane q) → Within 42401 952 w2 u
      → AddsAll (public_of sk) w2 ok u
      → (salt m : List ℕ)
      → Committed m salt (solution_of sk) 17 w
      → Prepared sk salt m ok u
  all-prepared sk u ok own masks within adds salt m c =
      let x = solution_of sk in
      let lanes = vectors-in m salt x w v y hw g.size h.size c (subst (λ (l : List ℕ). Own x l v) g.was own) in
      let held = masks-in w v y hw g.size h.size (subst (λ (l : List ℕ). Masks y (lane l)) spread masks) in
      let a = subst (λ (l : List ℕ). AddsAll (public_of sk) l ok u) both adds in
      prepared sk salt m w v y u ok hw g.size h.size c
      (subst (λ (l : List ℕ). Within 42401 952 l u) both within)
      (a.columns x (x0_at 28 m salt x) (u0_at 28 m salt x) (u1_at 28 m salt x) (lane v) lanes held (resulted-none m salt x w v y hw g.size h.size c (mseed_eq_of (public_of sk))))
      (a.agrees x (x0_at 28 m salt x) (lane v) lanes held)
