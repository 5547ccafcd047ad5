-- What the signature holds while it is written (document 001, algorithm 3, lines 11 and 12; algorithm 11), and what signing answers
-- (document 01). Definitions only.
use Rattle.std.specs.Prelude.{◌≡◌, true, false, Result, Ok, Err, List, ◌++◌, ℕ, ◌+◌, ◌*◌, ◌<◌, length}
use Rattle.std.proofs.Math.Option.{none, some}
use Rattle.octets.specs.Lists.{part, joined}
use Rattle.octets.specs.Place.{place}
use Rattle.paper.specs.Keys.{satisfied}
use Rattle.paper.specs.Commit.{rseed, lscom, path_at, sent_at, opening}
use Rattle.paper.specs.Alpha.{r3}
use Rattle.paper.specs.Challenge.{hidden_in}
use Rattle.paper.specs.Scheme.{sign_of}
use Rattle.workspace.specs.Map.{at_sent, at_roots}
use Rattle.signer.specs.declared.Refused.{Refused}
use Rattle.signer.specs.declared.Refused.TheVariants.{Unsatisfied, Spent}

-- the workspace has what the openings are made of
pub record Openable (mseed salt x work : List ℕ) : Type 0 where
  pub seed : length mseed ≡ 16
  pub roots : (e : ℕ) → e < 17 → part (at_roots + 16 * e) 16 work ≡ rseed mseed e
  pub sents : (e : ℕ) → e < 17 → part (at_sent + 12 * e) 12 work ≡ sent_at 28 mseed salt x e

module _ (mseed salt x : List ℕ) (i : ℕ → ℕ) where
  -- the opening of repetition e, with leaf i e hidden, written into s
  unfoldable pub opening_at : ℕ → List ℕ → List ℕ
  opening_at e s =
      place (3276 + 12 * e) (sent_at 28 mseed salt x e)
      (place (2732 + 32 * e) (lscom mseed salt x e (i e)) (place (556 + 128 * e) (path_at mseed salt x e (i e)) s))

  -- those of the first n repetitions
  unfoldable pub openings : ℕ → List ℕ → List ℕ
  openings n s =
      place 556 (joined n (λ e. path_at mseed salt x e (i e)))
      (place 2732 (joined n (λ e. lscom mseed salt x e (i e))) (place 3276 (joined n (sent_at 28 mseed salt x)) s))

-- the signature of its parts, with the leaves of challenge c hidden
unfoldable pub signature_of : List ℕ → List ℕ → List ℕ → List ℕ → List ℕ → List ℕ → List ℕ → List ℕ → List ℕ
signature_of mseed salt x c1 c2 a1 c nonce = salt ++ c1 ++ c2 ++ a1 ++ opening 28 mseed salt x (hidden_in c) ++ nonce

-- document 01's number of each case
abbrev pub number_of : Result (Unit {0}) Refused → ℕ
number_of (Ok u) = 0
number_of (Err Unsatisfied) = 4
number_of (Err Spent) = 5

-- the number, and the signature buffer afterwards, of a solution that satisfies the equations
pub record Answers (sk msg salt mseed : List ℕ) (tries : ℕ) (sig : List ℕ) (r : ℕ) (sig' : List ℕ) : Type 0 where
  pub spent : sign_of r3 sk msg salt mseed tries ≡ none → (r ≡ 5) × (sig' ≡ sig)
  pub done : (b : List ℕ) → sign_of r3 sk msg salt mseed tries ≡ some b → (r ≡ 0) × (sig' ≡ b)

-- the same of any solution: 4 and 5 leave the buffer as it was
pub record Signed (sk msg salt mseed : List ℕ) (tries : ℕ) (sig : List ℕ) (r : ℕ) (sig' : List ℕ) : Type 0 where
  pub unsolved : satisfied sk ≡ false → (r ≡ 4) × (sig' ≡ sig)
  pub spent : satisfied sk ≡ true → sign_of r3 sk msg salt mseed tries ≡ none → (r ≡ 5) × (sig' ≡ sig)
  pub done : satisfied sk ≡ true → (b : List ℕ) → sign_of r3 sk msg salt mseed tries ≡ some b → (r ≡ 0) × (sig' ≡ b)
