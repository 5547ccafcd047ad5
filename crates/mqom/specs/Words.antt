-- Document 01's 'given exactly when' in words: what the tests of the calls stand for. Definitions only.
use Rattle.std.specs.Prelude.{◌≡◌, ◌⊎◌, false, List, ℕ, ◌<◌, ◌≤◌, length}
use Rattle.paper.specs.Alpha.{r3}
use Rattle.paper.specs.Challenge.{passes}
use Rattle.paper.specs.Scheme.{sign_challenge}

-- no fixed-length input, output or workspace has another length
pub record KeygenSized (seed : List ℕ) (pk_len sk_len work_len : ℕ) : Type 0 where
  pub seed-32 : length seed ≡ 32
  pub pk-60 : pk_len ≡ 60
  pub sk-88 : sk_len ≡ 88
  pub work-65536 : work_len ≡ 65536

pub record SignSized (sk salt mseed : List ℕ) (sig_len work_len : ℕ) : Type 0 where
  pub sk-88 : length sk ≡ 88
  pub salt-16 : length salt ≡ 16
  pub mseed-16 : length mseed ≡ 16
  pub sig-3484 : sig_len ≡ 3484
  pub work-65536 : work_len ≡ 65536

pub record CheckSized (pk sig : List ℕ) (work_len : ℕ) : Type 0 where
  pub pk-60 : length pk ≡ 60
  pub sig-3484 : length sig ≡ 3484
  pub work-65536 : work_len ≡ 65536

abbrev pub TooLong : List ℕ → Type 0
TooLong msg = 65536 < length msg

abbrev pub Fits : List ℕ → Type 0
Fits msg = length msg ≤ 65536

-- allowed tries 0 or above 1,048,576
abbrev pub TriesOutside : ℕ → Type 0
TriesOutside tries = (tries ≡ 0) ⊎ (1048576 < tries)

pub record TriesWithin (tries : ℕ) : Type 0 where
  pub some : 1 ≤ tries
  pub limit : tries ≤ 1048576

-- none of the allowed tries passes
abbrev pub NonePasses : List ℕ → List ℕ → List ℕ → List ℕ → ℕ → Type 0
NonePasses sk msg salt mseed tries = (k : ℕ) → k < tries → passes (sign_challenge r3 sk msg salt mseed k) ≡ false
