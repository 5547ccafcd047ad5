-- The result lines: what the checker works out is what the signer committed to. Assumes nothing.
use mathlib.Core.Path.{◌≡◌, sym, ap, ap₂, ◌∙◌, fun_ext}
use mathlib.Core.List.{List}
use Prim.Native.Nat.{ℕ, ◌*◌, ◌<◌}
use lib.ListN.{length}
use Rattle.octets.specs.Lists.{vec, tab, part, joined}
use Rattle.algebra.specs.Line.{IsRow, Solves, Opens, alpha1, batch, z_at, value_of, checked0, line}
use Rattle.octets.proofs.Tab.{length-tab, vec-tab}
use Rattle.octets.specs.Xor.{◌⊕◌}
use Rattle.octets.proofs.Xor.{⊕-zero-l}
use Rattle.field.specs.Gf.{◌⊗◌}
use Rattle.field.specs.Vec.{sum, skip}
use Rattle.field.proofs.Field.{⊗-zero-l}
use Rattle.algebra.proofs.Opening.{value-spread}
use Rattle.algebra.proofs.Lines.{complete-tab, vx-is, vu-is}
use Rattle.paper.specs.Keys.{equation}
use Rattle.field.specs.Vec.{lifted}
use Rattle.algebra.specs.Folding.{point}
use Rattle.paper.specs.Commit.{x_part, u_part, shares_at, sent_at, path_at, tape_in, correction_in, x_eval, u_eval, u0_at, u1_at, x0_at}
use Rattle.paper.specs.Alpha.{Variant, r3, r5, HasRows, setting_of, alpha0_at, alpha1_at, alpha0_in}
use Rattle.octets.proofs.Part.{part-joined}
use Rattle.paper.proofs.Commit.{tape-same, correction-same, lifted-is}

pub r3-rows : HasRows r3
r3-rows = record { row = λ c1 j h. unfold IsRow in h; below = λ c1 j h. unfold IsRow in h }

pub r5-rows : HasRows r5
r5-rows = record { row = λ c1 j h. unfold IsRow in h; below = λ c1 j h. unfold IsRow in h }

-- ---- the values at the hidden leaf's point, by ComputeFolding's sums: (Δ + x_ACC) r - x_FOLD and u_ACC r - u_FOLD

module _ (η : ℕ) (salt paths sent : List ℕ) (e i : ℕ) where
  abbrev pub x_share : ℕ → ℕ → ℕ
  x_share k = lifted (x_part (tape_in η salt paths e i k))

  abbrev pub u_share : ℕ → ℕ → ℕ
  u_share k = vec (u_part η (tape_in η salt paths e i k))

  pub x_eval-folded : (q : ℕ) → x_eval η salt paths sent e i q ≡ value_of 256 point (skip i (λ k. x_share k q)) (lifted (correction_in sent e) q) (point i)
  unfolding x_eval
  x_eval-folded q = value-spread 256 point (λ k. x_share k q) i (lifted (correction_in sent e) q)

  pub u_eval-folded : (j : ℕ) → u_eval η salt paths sent e i j ≡ value_of 256 point (skip i (λ k. u_share k j)) 0 (point i)
  unfolding u_eval
  u_eval-folded j =
      sym (ap (λ (z : ℕ). z ⊕ sum 256 (skip i (λ k. u_share k j ⊗ (point i ⊕ point k)))) (⊗-zero-l (point i)) ∙ ⊕-zero-l _)
      ∙ value-spread 256 point (λ k. u_share k j) i 0

-- RecomputePAlpha by the algebra's checker
pub alpha0_in-checked : (v : Variant) (c1 mseed_eq y salt paths sent a1 : List ℕ) (i : ℕ → ℕ) (e : ℕ)
    → alpha0_in v c1 mseed_eq y salt paths sent a1 i e
    ≡ tab v.eta
    (checked0 (setting_of v c1 mseed_eq y) (i e) (x_share v.eta salt paths sent e (i e)) (u_share v.eta salt paths sent e (i e))
    (lifted (correction_in sent e)) (vec (part (v.eta * e) v.eta a1)))
unfolding alpha0_in
alpha0_in-checked v c1 mseed_eq y salt paths sent a1 i e =
    ap (tab v.eta)
    (fun_ext
    (λ j.
    ap₂ (λ (u : ℕ) (x : ℕ → ℕ). u ⊕ batch 28 (v.gamma c1) (λ q. z_at 56 (equation mseed_eq y q) x (point (i e))) j ⊕ (vec (part (v.eta * e) v.eta a1) j ⊗ point (i e)))
    (u_eval-folded v.eta salt paths sent e (i e) j) (fun_ext (x_eval-folded v.eta salt paths sent e (i e)))))

module _ (v : Variant) (c1 mseed_eq y mseed salt x : List ℕ) where
  pub length-alpha0 : (e : ℕ) → length (alpha0_at v c1 mseed_eq y mseed salt x e) ≡ v.eta
  unfolding alpha0_at
  length-alpha0 e = length-tab v.eta _

  pub length-alpha1 : (e : ℕ) → length (alpha1_at v c1 mseed_eq y mseed salt x e) ≡ v.eta
  unfolding alpha1_at
  length-alpha1 e = length-tab v.eta _

  module _ (shape : HasRows v) (hm : length mseed ≡ 16) (hx : length x ≡ 28) (i : ℕ → ℕ) (hi : (e : ℕ) → i e < 256) where
    abbrev paths : List ℕ
    paths = joined 17 (λ e. path_at mseed salt x e (i e))

    abbrev sent : List ℕ
    sent = joined 17 (sent_at v.eta mseed salt x)

    abbrev a1 : List ℕ
    a1 = joined 17 (alpha1_at v c1 mseed_eq y mseed salt x)

    alpha1-in : (e : ℕ) → e < 17 → (j : ℕ) → j < v.eta
        → vec (part (v.eta * e) v.eta a1) j ≡ alpha1 (setting_of v c1 mseed_eq y) (shares_at v.eta mseed salt x e) j
    unfolding alpha1_at
    alpha1-in e he j hj =
        ap (λ (l : List ℕ). vec l j) (part-joined 17 v.eta (alpha1_at v c1 mseed_eq y mseed salt x) (λ e he. length-alpha1 e) e he)
        ∙ vec-tab v.eta _ j hj

    opens : (e : ℕ) → e < 17
        → Opens (setting_of v c1 mseed_eq y) (shares_at v.eta mseed salt x e) (i e)
        (λ k. lifted (x_part (tape_in v.eta salt paths e (i e) k)))
        (λ k. vec (u_part v.eta (tape_in v.eta salt paths e (i e) k)))
        (lifted (correction_in sent e)) (vec (part (v.eta * e) v.eta a1))
    opens e he = record {
      X-same = λ k q hk ne hq. ap (λ (t : List ℕ). lifted (x_part t) q) (tape-same mseed salt x hm hx i hi v.eta e k he ne);
      U-same = λ k j hk ne row. ap (λ (t : List ℕ). vec (u_part v.eta t) j) (tape-same mseed salt x hm hx i hi v.eta e k he ne);
      d-same = λ q hq. ap (λ (t : List ℕ). lifted t q) (correction-same mseed salt x hm hx i hi v.eta e he) ∙ lifted-is mseed salt x hm hx v.eta e q hq;
      a1-same = λ j row. alpha1-in e he j (shape.below c1 j row);
    }

    -- Opening: what the checker works out at the hidden leaf's point are the values of the signer's lines there
    pub x_eval-line : (e : ℕ) → e < 17 → (q : ℕ) → q < 56
        → x_eval v.eta salt paths sent e (i e) q ≡ line (lifted x q) (x0_at v.eta mseed salt x e q) (point (i e))
    x_eval-line e he q hq =
        x_eval-folded v.eta salt paths sent e (i e) q
        ∙ vx-is (setting_of v c1 mseed_eq y) (shares_at v.eta mseed salt x e) (i e) _ _ _ _ (opens e he) q hq

    pub u_eval-line : (e : ℕ) → e < 17 → (j : ℕ) → j < v.eta
        → u_eval v.eta salt paths sent e (i e) j ≡ line (u1_at v.eta mseed salt x e j) (u0_at v.eta mseed salt x e j) (point (i e))
    u_eval-line e he j hj =
        u_eval-folded v.eta salt paths sent e (i e) j
        ∙ vu-is (setting_of v c1 mseed_eq y) (shares_at v.eta mseed salt x e) (i e) _ _ _ _ (opens e he) j (shape.row c1 j hj)

    pub alpha0-same : ((q : ℕ) → q < 28 → Solves 56 (equation mseed_eq y q) (lifted x)) → (e : ℕ) → e < 17
        → alpha0_in v c1 mseed_eq y salt paths sent a1 i e ≡ alpha0_at v c1 mseed_eq y mseed salt x e
    unfolding alpha0_at
    alpha0-same solves e he =
        alpha0_in-checked v c1 mseed_eq y salt paths sent a1 i e
        ∙ complete-tab (setting_of v c1 mseed_eq y) (shares_at v.eta mseed salt x e) (i e) _ _ _ _ (opens e he) solves v.eta (shape.row c1)
