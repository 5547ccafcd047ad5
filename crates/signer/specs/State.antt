-- What the workspace holds while signing (document 001, algorithm 3, lines 6 and 7). Definitions only.
use Rattle.std.specs.Prelude.{◌≡◌, Bool, List, [], ℕ, ◌+◌, ◌*◌, ◌<◌, ◌≤◌, length}
use Rattle.std.specs.Int.Bits.{bit_xor}
use Rattle.octets.specs.Xor.{◌⊕◌}
use Rattle.octets.specs.Lists.{vec, tab, part, joined, alike}
use Rattle.field.specs.Vec.{lifted}
use Rattle.algebra.specs.Line.{z0, z1}
use Rattle.paper.specs.Keys.{equation, values_at, mseed_eq_of, y_of, satisfied, solution_of}
use Rattle.paper.specs.Commit.{rseed, hash_ls_com, lscom, sent_at, u0_at, u1_at, x0_at}
use Rattle.paper.specs.Alpha.{r3}
use Rattle.paper.specs.Scheme.{sign_alpha0, sign_alpha1}
use Rattle.equations.specs.Lanes.{Masks}
use Rattle.workspace.specs.Map.{at_vectors, at_hashes, at_sent, at_alpha0, at_alpha1, at_roots}

-- d' differs from d in no place but the n from a on
pub record Within (a n : ℕ) (d d' : List ℕ) : Type 0 where
  pub size : length d' ≡ length d
  pub before : (i : ℕ) → i < a → vec d' i ≡ vec d i
  pub behind : (i : ℕ) → a + n ≤ i → vec d' i ≡ vec d i

-- what algorithm 10 leaves of the first n repetitions; element k of x_0[e] is in lane e of vector k
pub record Committed (mseed salt x : List ℕ) (n : ℕ) (work : List ℕ) : Type 0 where
  pub roots : (e : ℕ) → e < 17 → part (at_roots + 16 * e) 16 work ≡ rseed mseed e
  pub hashes : part at_hashes (32 * n) work ≡ joined n (λ e. hash_ls_com (lscom mseed salt x e))
  pub sents : part at_sent (12 * n) work ≡ joined n (sent_at 28 mseed salt x)
  pub masks0 : part at_alpha0 (28 * n) work ≡ joined n (λ e. tab 28 (u0_at 28 mseed salt x e))
  pub masks1 : part at_alpha1 (28 * n) work ≡ joined n (λ e. tab 28 (u1_at 28 mseed salt x e))
  pub lanes : (e k : ℕ) → e < n → k < 56 → vec work (at_vectors + (192 * k + e)) ≡ x0_at 28 mseed salt x e k

-- lane l of vector k is v k l: x_0[e] in lane e, with the point 0, and the solution x in lane 17, with the point 1
pub record Vectors (x : List ℕ) (x0 v : ℕ → ℕ → ℕ) : Type 0 where
  pub lines : (e k : ℕ) → e < 17 → k < 56 → v k e ≡ x0 e k
  pub own : (k : ℕ) → k < 56 → v k 17 ≡ lifted x k
  pub points : (e : ℕ) → e < 17 → v 56 e ≡ 0
  pub point : v 56 17 ≡ 1

-- what algorithm 6 leaves after n equations: α_0 and α_1 in the first n columns, the masks u_0 and u_1 in the others
pub record Resulted (m x : List ℕ) (x0 u0 u1 : ℕ → ℕ → ℕ) (n : ℕ) (work : List ℕ) : Type 0 where
  pub done0 : (e j : ℕ) → e < 17 → j < n → vec work (at_alpha0 + (28 * e + j)) ≡ u0 e j ⊕ z0 56 (equation m [] j) (x0 e)
  pub done1 : (e j : ℕ) → e < 17 → j < n → vec work (at_alpha1 + (28 * e + j)) ≡ u1 e j ⊕ z1 56 (equation m [] j) (lifted x) (x0 e)
  pub left0 : (e j : ℕ) → e < 17 → n ≤ j → j < 28 → vec work (at_alpha0 + (28 * e + j)) ≡ u0 e j
  pub left1 : (e j : ℕ) → e < 17 → n ≤ j → j < 28 → vec work (at_alpha1 + (28 * e + j)) ≡ u1 e j

-- packed equation i of the public key pk added; r gathers how its value at the solution differs from the public one
pub record Adds (pk : List ℕ) (i : ℕ) (work : List ℕ) (r : ℕ) (work' : List ℕ) : Type 0 where
  pub columns : (x : List ℕ) (x0 u0 u1 v : ℕ → ℕ → ℕ) → Vectors x x0 v → Masks (part at_vectors 10944 work) v
      → Resulted (mseed_eq_of pk) x x0 u0 u1 i work
      → Resulted (mseed_eq_of pk) x x0 u0 u1 (i + 1) work'
  pub differs : (x : List ℕ) (x0 v : ℕ → ℕ → ℕ) → Vectors x x0 v → Masks (part at_vectors 10944 work) v
      → r ≡ bit_xor (vec (values_at (mseed_eq_of pk) x) i) (vec (y_of pk) i)

-- all of them; r is whether the values at the solution are the public ones
pub record AddsAll (pk work : List ℕ) (r : Bool) (work' : List ℕ) : Type 0 where
  pub columns : (x : List ℕ) (x0 u0 u1 v : ℕ → ℕ → ℕ) → Vectors x x0 v → Masks (part at_vectors 10944 work) v
      → Resulted (mseed_eq_of pk) x x0 u0 u1 0 work
      → Resulted (mseed_eq_of pk) x x0 u0 u1 28 work'
  pub agrees : (x : List ℕ) (x0 v : ℕ → ℕ → ℕ) → Vectors x x0 v → Masks (part at_vectors 10944 work) v
      → r ≡ alike (values_at (mseed_eq_of pk) x) (y_of pk)

-- what signing goes on with, and whether the solution satisfies the equations
pub record Prepared (sk salt mseed : List ℕ) (ok : Bool) (work : List ℕ) : Type 0 where
  pub holds : ok ≡ satisfied sk
  pub roots : (e : ℕ) → e < 17 → part (at_roots + 16 * e) 16 work ≡ rseed mseed e
  pub hashes : part at_hashes 544 work ≡ joined 17 (λ e. hash_ls_com (lscom mseed salt (solution_of sk) e))
  pub sents : part at_sent 204 work ≡ joined 17 (sent_at 28 mseed salt (solution_of sk))
  pub alphas0 : part at_alpha0 476 work ≡ joined 17 (sign_alpha0 r3 sk salt mseed)
  pub alphas1 : part at_alpha1 476 work ≡ joined 17 (sign_alpha1 r3 sk salt mseed)
