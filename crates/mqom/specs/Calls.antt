-- The three calls as total functions of all that they are given. Of outputs and workspace only the lengths count. Each asks in the order
-- of document 01's numbers, so that the lowest that applies is given. Definitions only.
use Rattle.std.specs.Prelude.{Bool, ◌&&◌, List, ℕ, eqb, leb, length}
use Rattle.std.proofs.Math.Option.{Option, none, some}
use Rattle.paper.specs.Keys.{KeyPair, key_gen, satisfied}
use Rattle.paper.specs.Alpha.{r3}
use Rattle.paper.specs.Scheme.{sign_of, verif_of}
use Rattle.mqom.specs.Outcome.{Outcome, refused, failed, done, unless, Ends, Gives}

-- ---- what number 1, 2 and 3 ask

unfoldable pub keygen_lengths : List ℕ → ℕ → ℕ → ℕ → Bool
keygen_lengths seed pk_len sk_len work_len = eqb (length seed) 32 && eqb pk_len 60 && eqb sk_len 88 && eqb work_len 65536

unfoldable pub sign_lengths : List ℕ → List ℕ → List ℕ → ℕ → ℕ → Bool
sign_lengths sk salt mseed sig_len work_len =
    eqb (length sk) 88 && eqb (length salt) 16 && eqb (length mseed) 16 && eqb sig_len 3484 && eqb work_len 65536

unfoldable pub check_lengths : List ℕ → List ℕ → ℕ → Bool
check_lengths pk sig work_len = eqb (length pk) 60 && eqb (length sig) 3484 && eqb work_len 65536

unfoldable pub message_fits : List ℕ → Bool
message_fits msg = leb (length msg) 65536

unfoldable pub tries_allowed : ℕ → Bool
tries_allowed tries = leb 1 tries && leb tries 1048576

-- ---- key generation

unfoldable pub keygen_all : List ℕ → ℕ → ℕ → ℕ → Outcome KeyPair
keygen_all seed pk_len sk_len work_len = unless (keygen_lengths seed pk_len sk_len work_len) (refused 1) (done (key_gen seed))

-- ---- signing

-- none of the allowed tries passes, or the signature
unfoldable pub signed : Option (List ℕ) → Outcome (List ℕ)
signed none = failed 5
signed (some sig) = done sig

unfoldable pub sign_all : List ℕ → List ℕ → List ℕ → List ℕ → ℕ → ℕ → ℕ → Outcome (List ℕ)
sign_all sk msg salt mseed tries sig_len work_len =
    unless (sign_lengths sk salt mseed sig_len work_len) (refused 1)
    (unless (message_fits msg) (refused 2)
    (unless (tries_allowed tries) (refused 3)
    (unless (satisfied sk) (failed 4)
    (signed (sign_of r3 sk msg salt mseed tries)))))

-- ---- checking

unfoldable pub check_all : List ℕ → List ℕ → List ℕ → ℕ → Outcome (Unit {0})
check_all pk msg sig work_len =
    unless (check_lengths pk sig work_len) (refused 1)
    (unless (message_fits msg) (refused 2)
    (unless (verif_of r3 pk msg sig) (failed 6)
    (done tt)))

-- ---- what a call answers: its number r and what lies in its outputs and workspace afterwards

pub record MakesKeys (seed pk sk work : List ℕ) (r : ℕ) (pk' sk' work' : List ℕ) : Type 0 where
  pub ends : Ends (keygen_all seed (length pk) (length sk) (length work)) r work work'
  pub public : Gives (λ (k : KeyPair). k.pk) (keygen_all seed (length pk) (length sk) (length work)) pk pk'
  pub secret : Gives (λ (k : KeyPair). k.sk) (keygen_all seed (length pk) (length sk) (length work)) sk sk'

pub record SignsMessage (sk msg salt mseed : List ℕ) (tries : ℕ) (sig work : List ℕ) (r : ℕ) (sig' work' : List ℕ) : Type 0 where
  pub ends : Ends (sign_all sk msg salt mseed tries (length sig) (length work)) r work work'
  pub signature : Gives (λ (s : List ℕ). s) (sign_all sk msg salt mseed tries (length sig) (length work)) sig sig'

pub record ChecksSignature (pk msg sig work : List ℕ) (r : ℕ) (work' : List ℕ) : Type 0 where
  pub ends : Ends (check_all pk msg sig (length work)) r work work'
