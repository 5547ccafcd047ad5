-- Document 01, 'Statements the work stands on': each a theorem under its own name, of the definitions of document 001. Assumes nothing.
use mathlib.Core.Path.{◌≡◌, refl}
use mathlib.Core.Logic.{◌↔◌}
use mathlib.Core.Bool.{Bool, true, false}
use mathlib.Core.List.{List, []}
use mathlib.Core.Option.{some}
use mathlib.Core.Option as option
use Prim.Native.Nat.{ℕ, suc, ◌<◌, ◌/◌}
use lib.ListN.{length}
use Rattle.octets.specs.Xor.{◌⊕◌}
use Rattle.octets.specs.Lists.{Bytes, vec, part, joined, zero16}
use Rattle.field.specs.Gf.{◌⊗◌}
use Rattle.field.specs.Vec.{sum, dot, mat, lifted}
use Rattle.algebra.specs.Folding.{point}
use Rattle.algebra.specs.Line.{Equation, line, IsLine, Solves, z_at, batch, none}
use Rattle.algebra.specs.Pack.{Basis}
use Rattle.algebra.proofs.Equation.{z_at-form}
use Rattle.algebra.proofs.Degree.{system-degree}
use Rattle.algebra.proofs.Points.{point-injective, point-lt}
use Rattle.algebra.proofs.Opening.{leaves-line, hidden-term}
use Rattle.paper.specs.Keys.{satisfied}
use Rattle.paper.specs.Commit.{lseed, correction, sent_at, path_at, u0_at, u1_at, x0_at, x_eval, u_eval}
use Rattle.paper.specs.Challenge.{first_below}
use Rattle.paper.proofs.Unpacked.{Both, satisfied-unpacked}
use Rattle.paper.proofs.Commit.{lseed-sum, correction-first}
use Rattle.paper.specs.Alpha.{r3}
use Rattle.paper.proofs.Alpha.{r3-rows, x_eval-line, u_eval-line}
use Rattle.paper.proofs.Challenge.{First, first_some, first-none}

-- ---- Equations: the packed system holds exactly when the unpacked one does, for every basis of K over F

pub equations : (β γ : ℕ) (B : Basis β γ) (sk : List ℕ) (hk : length sk ≡ 88) (p : Bytes sk)
    → (satisfied sk ≡ true) ↔ ((q : ℕ) → q < 28 → Both β γ B sk hk p q)
equations = satisfied-unpacked

-- ---- Lines: a packed equation made homogeneous, at the value v of a line and the point r

pub lines : (n : ℕ) (e : Equation) (v : ℕ → ℕ) (r : ℕ) → z_at n e v r ≡ dot n (mat suc e.A v) v ⊕ (dot n e.b v ⊗ r) ⊕ (e.y ⊗ (r ⊗ r))
lines = z_at-form

-- ---- Result line: mask line plus that expression has degree at most 1 exactly when the leading coefficients solve the system

pub result-line : (n m : ℕ) (e : ℕ → Equation) (x x0 u1 u0 : ℕ → ℕ) → ((q : ℕ) → q < m → (e q).y < 256)
    → ((j : ℕ) → j < m → IsLine (λ r. line (u1 j) (u0 j) r ⊕ batch m none (λ q. z_at n (e q) (λ k. line (x k) (x0 k) r) r) j))
    ↔ ((q : ℕ) → q < m → Solves n (e q) x)
result-line = system-degree

-- ---- Points: the Gray code of i is i xor (i / 2); the 256 points are elements of K, all different

pub gray-code : (i : ℕ) → point i ≡ i ⊕ (i / 2)
unfolding point
gray-code i = refl

pub points-differ : (i j : ℕ) → point i ≡ point j → i ≡ j
points-differ = point-injective

pub points-small : (i : ℕ) → i < 256 → point i < 256
points-small = point-lt 8

-- ---- Trees

module _ (mseed salt x : List ℕ) (hm : length mseed ≡ 16) (hx : length x ≡ 28) where
  -- the leaf seeds of tree e add up to the offset, the solution's first 128 bits
  pub trees-offset : (e b : ℕ) → e < 17 → b < 16 → sum 256 (λ k. vec (lseed mseed salt x e k) b) ≡ vec x b
  trees-offset = lseed-sum mseed salt x hm hx

  -- so the first 128 bits of the correction are zero
  pub trees-correction : (e : ℕ) → e < 17 → part 0 16 (correction 28 mseed salt x e) ≡ zero16
  trees-correction = correction-first mseed salt x hm hx 28

-- ---- Leaves: shares s of leaves with the points w are a line with the sum of the shares as leading coefficient, and minus the sum of ω times
-- share as constant term

pub leaves : (N : ℕ) (w s : ℕ → ℕ) (r : ℕ) → sum N (λ k. (r ⊕ w k) ⊗ s k) ≡ line (sum N s) (sum N (λ k. w k ⊗ s k)) r
leaves = leaves-line

-- ---- Opening

-- the hidden leaf's term is zero at its own point
pub opening-hidden : (w s : ℕ → ℕ) (i : ℕ) → (w i ⊕ w i) ⊗ s i ≡ 0
opening-hidden = hidden-term

-- so the other leaves and the correction give the lines' values there
module _ (mseed salt x : List ℕ) (hm : length mseed ≡ 16) (hx : length x ≡ 28) (i : ℕ → ℕ) (hi : (e : ℕ) → i e < 256) where
  abbrev paths : List ℕ
  paths = joined 17 (λ e. path_at mseed salt x e (i e))

  abbrev sent : List ℕ
  sent = joined 17 (sent_at 28 mseed salt x)

  pub opening-x : (e : ℕ) → e < 17 → (q : ℕ) → q < 56 → x_eval 28 salt paths sent e (i e) q ≡ line (lifted x q) (x0_at 28 mseed salt x e q) (point (i e))
  opening-x = x_eval-line r3 [] [] [] mseed salt x r3-rows hm hx i hi

  pub opening-u : (e : ℕ) → e < 17 → (j : ℕ) → j < 28 → u_eval 28 salt paths sent e (i e) j ≡ line (u1_at 28 mseed salt x e j) (u0_at 28 mseed salt x e j) (point (i e))
  opening-u = u_eval-line r3 [] [] [] mseed salt x r3-rows hm hx i hi

-- ---- Grinding: the search finds the first nonce that passes, or none below the allowed tries does

pub grinding : (p : ℕ → Bool) (t n : ℕ) → first_below p t ≡ some n → First p t n
grinding = first_some

pub grinding-none : (p : ℕ → Bool) (t : ℕ) → first_below p t ≡ option.none → (k : ℕ) → k < t → p k ≡ false
grinding-none = first-none
