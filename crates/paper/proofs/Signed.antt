-- What Sign's parts and its search are, for those to whom its definitions are shut. Assumes nothing.
use mathlib.Core.Path.{◌≡◌, ap}
use mathlib.Core.List.{List}
use mathlib.Core.Bool.{false}
use mathlib.Core.Option.{none}
use Prim.Native.Nat.{ℕ, ◌<◌}
use lib.ListN.{length}
use Rattle.paper.specs.Keys.{public_of, solution_of, mseed_eq_of, y_of}
use Rattle.paper.specs.Alpha.{Variant}
use Rattle.paper.specs.Challenge.{hidden_in, passes}
use Rattle.paper.specs.Scheme.{sign_com1, sign_alpha1, sign_challenge, with_nonce, sign_of}
use Rattle.paper.proofs.Alpha.{length-alpha1}
use Rattle.paper.proofs.Challenge.{hidden-lt, first_short}

module _ (v : Variant) (sk msg salt mseed : List ℕ) where
  pub length-sign_alpha1 : (e : ℕ) → length (sign_alpha1 v sk salt mseed e) ≡ v.eta
  unfolding sign_alpha1
  length-sign_alpha1 e = length-alpha1 v (sign_com1 v sk salt mseed) (mseed_eq_of (public_of sk)) (y_of (public_of sk)) mseed salt (solution_of sk) e

  -- a hidden leaf is one of 256
  pub hidden-sign-lt : (n e : ℕ) → hidden_in (sign_challenge v sk msg salt mseed n) e < 256
  unfolding sign_challenge
  hidden-sign-lt n e = hidden-lt _ _ e

  -- tries of which none passes give nothing
  pub sign-none : (t : ℕ) → ((k : ℕ) → k < t → passes (sign_challenge v sk msg salt mseed k) ≡ false) → sign_of v sk msg salt mseed t ≡ none
  unfolding sign_of with_nonce
  sign-none t h = ap (with_nonce v sk msg salt mseed) (first_short (λ n. passes (sign_challenge v sk msg salt mseed n)) t h)
