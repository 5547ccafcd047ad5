-- What the workspace holds while a signature is checked (document 001, algorithms 5, 8 and 12). Definitions only.
use Rattle.std.specs.Prelude.{◌≡◌, List, ℕ, ◌+◌, ◌*◌, ◌<◌, ◌≤◌}
use Rattle.octets.specs.Xor.{◌⊕◌}
use Rattle.octets.specs.Lists.{vec, tab, part, joined}
use Rattle.field.specs.Gf.{◌⊗◌}
use Rattle.algebra.specs.Folding.{point}
use Rattle.algebra.specs.Line.{z_at}
use Rattle.paper.specs.Keys.{equation, mseed_eq_of, y_of}
use Rattle.paper.specs.Commit.{hash_ls_com, lscom_in, x_eval, u_eval, com1_in}
use Rattle.paper.specs.Alpha.{r3, alpha0_in, com2_from}
use Rattle.paper.specs.Scheme.{sig_salt, sig_com1, sig_alpha1, sig_paths, sig_outs, sig_sent}
use Rattle.equations.specs.Lanes.{Masks}
use Rattle.workspace.specs.Map.{at_vectors, at_hashes, at_alpha0}

-- u + r a: what v_z is added to for α_0 (algorithm 8, lines 11 and 12), of the 28 elements of u and a
unfoldable pub rest_of : List ℕ → List ℕ → ℕ → List ℕ
rest_of u a r = tab 28 (λ j. vec u j ⊕ (r ⊗ vec a j))

-- v' is v with x in lane e of the vectors, and r for its point
pub record Placed (v : List ℕ) (e : ℕ) (x : List ℕ) (r : ℕ) (v' : List ℕ) : Type 0 where
  pub values : (k : ℕ) → k < 56 → vec v' (192 * k + e) ≡ vec x k
  pub point-is : vec v' (192 * 56 + e) ≡ r
  pub others : (k l : ℕ) → k < 57 → l < 24 → (l ≡ e → ⊥) → vec v' (192 * k + l) ≡ vec v (192 * k + l)

-- what algorithm 12 leaves of the first n repetitions, with leaf i e of tree e hidden: the trees' hashes, the values at the points, and what
-- v_z is added to for α_0; element k of v_x[e] is in lane e of vector k, the point in lane e of vector 56
pub record Evaluated (salt paths outs sents a1 : List ℕ) (i : ℕ → ℕ) (n : ℕ) (work : List ℕ) : Type 0 where
  pub hashes : part at_hashes (32 * n) work ≡ joined n (λ e. hash_ls_com (lscom_in salt paths outs e (i e)))
  pub rests : part at_alpha0 (28 * n) work ≡ joined n (λ e. rest_of (tab 28 (u_eval 28 salt paths sents e (i e))) (part (28 * e) 28 a1) (point (i e)))
  pub lanes : (e k : ℕ) → e < n → k < 56 → vec work (at_vectors + (192 * k + e)) ≡ x_eval 28 salt paths sents e (i e) k
  pub points : (e : ℕ) → e < n → vec work (at_vectors + (192 * 56 + e)) ≡ point (i e)

-- the same of the parts of a signature
abbrev pub EvaluatedIn : List ℕ → (ℕ → ℕ) → ℕ → List ℕ → Type 0
EvaluatedIn sig i n work = Evaluated (sig_salt r3 sig) (sig_paths r3 sig) (sig_outs r3 sig) (sig_sent r3 sig) (sig_alpha1 r3 sig) i n work

-- com_1 and com_2 of the parts of a signature, with leaf i e of tree e hidden (algorithm 5, lines 7, 9 and 10)
abbrev pub com1_of : List ℕ → (ℕ → ℕ) → List ℕ
com1_of sig i = com1_in (sig_salt r3 sig) (sig_paths r3 sig) (sig_outs r3 sig) (sig_sent r3 sig) i

abbrev pub com2_of : List ℕ → List ℕ → (ℕ → ℕ) → List ℕ
com2_of pk sig i =
    com2_from (alpha0_in r3 (sig_com1 r3 sig) (mseed_eq_of pk) (y_of pk) (sig_salt r3 sig) (sig_paths r3 sig) (sig_sent r3 sig) (sig_alpha1 r3 sig) i) (sig_alpha1 r3 sig)

-- lane e of the vectors v has the values x e, and the point p e
pub record Vectors (x : ℕ → ℕ → ℕ) (p : ℕ → ℕ) (v : ℕ → ℕ → ℕ) : Type 0 where
  pub values : (e k : ℕ) → e < 17 → k < 56 → v k e ≡ x e k
  pub points : (e : ℕ) → e < 17 → v 56 e ≡ p e

-- what algorithm 8 leaves after n equations: α_0 in the first n columns, what v_z is added to in the others; and what it works with
pub record Recomputed (pk : List ℕ) (x : ℕ → ℕ → ℕ) (p : ℕ → ℕ) (rest v : ℕ → ℕ → ℕ) (n : ℕ) (work : List ℕ) : Type 0 where
  pub masks : Masks (part at_vectors 10944 work) v
  pub done : (e j : ℕ) → e < 17 → j < n → vec work (at_alpha0 + (28 * e + j)) ≡ rest e j ⊕ z_at 56 (equation (mseed_eq_of pk) (y_of pk) j) (x e) (p e)
  pub left : (e j : ℕ) → e < 17 → n ≤ j → j < 28 → vec work (at_alpha0 + (28 * e + j)) ≡ rest e j
