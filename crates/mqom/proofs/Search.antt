-- The search for a nonce: what it means that Sign gives a signature, or none. Assumes nothing.
use mathlib.Core.Path.{◌≡◌, refl}
use mathlib.Core.Logic.{◌↔◌}
use mathlib.Core.List.{List}
use mathlib.Core.Option.{Option, none, some}
use Prim.Native.Nat.{ℕ, ◌<◌}
use native.Mathlib.Omega.{arith}
use Rattle.paper.specs.Alpha.{r3}
use Rattle.paper.specs.Challenge.{passes, first_below}
use Rattle.paper.specs.Scheme.{sign_challenge, sign_with, sign_of}
use Rattle.mqom.specs.Words.{NonePasses}
use Rattle.paper.proofs.Challenge.{first_some, first-none}
use Rattle.paper.proofs.Scheme.{FirstPassing, sign-place}
use Rattle.paper.proofs.Signed.{sign-none}

module _ (sk msg salt mseed : List ℕ) where
  -- nonce n is the first that passes, one of the tries, and the signature's
  pub record SignedWith (tries : ℕ) (sig : List ℕ) (n : ℕ) : Type 0 where
    pub first : FirstPassing r3 sk msg salt mseed n
    pub below : n < tries
    pub bytes : sig ≡ sign_with r3 sk msg salt mseed n

  module _ (tries : ℕ) where
    pub signed-with : (sig : List ℕ) → sign_of r3 sk msg salt mseed tries ≡ some sig → (n : ℕ) × SignedWith tries sig n
    signed-with sig e = go (first_below (λ n. passes (sign_challenge r3 sk msg salt mseed n)) tries) refl
      where
        go : (o : Option ℕ) → first_below (λ n. passes (sign_challenge r3 sk msg salt mseed n)) tries ≡ o → (n : ℕ) × SignedWith tries sig n
        go none q =
            let s = sign-none r3 sk msg salt mseed tries (first-none (λ n. passes (sign_challenge r3 sk msg salt mseed n)) tries q) in
            let z : ◌≡◌ {A = ℕ} 0 1 = cc in
            absurd (omega arith)
        go (some n) q =
            let f = first_some (λ n. passes (sign_challenge r3 sk msg salt mseed n)) tries n q in
            let s = sign-place r3 sk msg salt mseed n tries (f.holds, f.least) f.below in
            (n, record { first = (f.holds, f.least); below = f.below; bytes = cc })

    pub spent : (sign_of r3 sk msg salt mseed tries ≡ none) ↔ NonePasses sk msg salt mseed tries
    spent = (λ e. go e (first_below (λ n. passes (sign_challenge r3 sk msg salt mseed n)) tries) refl, sign-none r3 sk msg salt mseed tries)
      where
        go : sign_of r3 sk msg salt mseed tries ≡ none → (o : Option ℕ)
            → first_below (λ n. passes (sign_challenge r3 sk msg salt mseed n)) tries ≡ o → NonePasses sk msg salt mseed tries
        go e none q = first-none (λ n. passes (sign_challenge r3 sk msg salt mseed n)) tries q
        go e (some n) q =
            let f = first_some (λ n. passes (sign_challenge r3 sk msg salt mseed n)) tries n q in
            let s = sign-place r3 sk msg salt mseed n tries (f.holds, f.least) f.below in
            let z : ◌≡◌ {A = ℕ} 0 1 = cc in
            absurd (omega arith)
