-- Document 001, sections 2.4.2 and 2.4.3 (algorithms 3 and 5): signing, with so many tries allowed, and checking. Definitions only.
use Rattle.std.specs.Prelude.{List, ◌++◌, Bool, ◌&&◌, ℕ, ◌+◌, ◌*◌}
use Rattle.std.proofs.Math.Option.{Option, none, some}
use Rattle.octets.specs.Lists.{part, joined, bytes_of, alike}
use Rattle.paper.specs.Symmetric.{hash, for_message, for_transcript}
use Rattle.paper.specs.Keys.{public_of, solution_of, mseed_eq_of, y_of}
use Rattle.paper.specs.Commit.{com1, opening, lseed, com1_in, lseed_in}
use Rattle.paper.specs.Alpha.{Variant, alpha0_at, alpha1_at, alpha0_in, com2_from}
use Rattle.paper.specs.Challenge.{challenge, hidden_in, passes, first_below}

-- the Fiat-Shamir hash (algorithm 3, line 9; 5, line 4)
unfoldable pub transcript : List ℕ → List ℕ → List ℕ → List ℕ → List ℕ
transcript pk c1 c2 msg = hash for_transcript (pk ++ c1 ++ c2 ++ hash for_message msg)

module _ (v : Variant) where
  -- ---- algorithm 3, Sign

  module _ (sk salt mseed : List ℕ) where
    -- line 6
    unfoldable pub sign_com1 : List ℕ
    sign_com1 = com1 v.eta mseed salt (solution_of sk)

    -- line 7
    unfoldable pub sign_alpha0 : ℕ → List ℕ
    sign_alpha0 e = alpha0_at v sign_com1 (mseed_eq_of (public_of sk)) (y_of (public_of sk)) mseed salt (solution_of sk) e

    unfoldable pub sign_alpha1 : ℕ → List ℕ
    sign_alpha1 e = alpha1_at v sign_com1 (mseed_eq_of (public_of sk)) (y_of (public_of sk)) mseed salt (solution_of sk) e

    -- line 8
    unfoldable pub sign_com2 : List ℕ
    sign_com2 = com2_from sign_alpha0 (joined 17 sign_alpha1)

  module _ (sk msg salt mseed : List ℕ) where
    -- line 10: the challenge of nonce n
    unfoldable pub sign_challenge : ℕ → List ℕ
    sign_challenge n = challenge (transcript (public_of sk) (sign_com1 sk salt mseed) (sign_com2 sk salt mseed) msg) (bytes_of 4 n)

    -- lines 11 and 12: the signature with nonce n
    unfoldable pub sign_with : ℕ → List ℕ
    sign_with n =
        salt ++ sign_com1 sk salt mseed ++ sign_com2 sk salt mseed ++ joined 17 (sign_alpha1 sk salt mseed)
        ++ opening v.eta mseed salt (solution_of sk) (hidden_in (sign_challenge n))
        ++ bytes_of 4 n

    unfoldable pub with_nonce : Option ℕ → Option (List ℕ)
    with_nonce none = none
    with_nonce (some n) = some (sign_with n)

    -- with so many tries allowed (document 01)
    unfoldable pub sign_of : ℕ → Option (List ℕ)
    sign_of tries = with_nonce (first_below (λ n. passes (sign_challenge n)) tries)

  -- ---- the parts of a signature

  abbrev pub sig_salt : List ℕ → List ℕ
  sig_salt sig = part 0 16 sig

  abbrev pub sig_com1 : List ℕ → List ℕ
  sig_com1 sig = part 16 32 sig

  abbrev pub sig_com2 : List ℕ → List ℕ
  sig_com2 sig = part 48 32 sig

  abbrev pub sig_alpha1 : List ℕ → List ℕ
  sig_alpha1 sig = part 80 (17 * v.eta) sig

  abbrev pub sig_paths : List ℕ → List ℕ
  sig_paths sig = part (80 + 17 * v.eta) 2176 sig

  abbrev pub sig_outs : List ℕ → List ℕ
  sig_outs sig = part (2256 + 17 * v.eta) 544 sig

  abbrev pub sig_sent : List ℕ → List ℕ
  sig_sent sig = part (2800 + 17 * v.eta) 204 sig

  abbrev pub sig_nonce : List ℕ → List ℕ
  sig_nonce sig = part (3004 + 17 * v.eta) 4 sig

  -- ---- algorithm 5, Verif, of the parts

  module _ (pk msg salt c1 c2 a1 paths outs sent nonce : List ℕ) where
    -- lines 4 and 5
    unfoldable pub check_challenge : List ℕ
    check_challenge = challenge (transcript pk c1 c2 msg) nonce

    -- line 7
    unfoldable pub check_com1 : List ℕ
    check_com1 = com1_in salt paths outs sent (hidden_in check_challenge)

    -- lines 9 and 10
    unfoldable pub check_com2 : List ℕ
    check_com2 = com2_from (alpha0_in v c1 (mseed_eq_of pk) (y_of pk) salt paths sent a1 (hidden_in check_challenge)) a1

    -- lines 6, 8 and 11
    unfoldable pub verif_parts : Bool
    verif_parts = passes check_challenge && alike check_com1 c1 && alike check_com2 c2

  unfoldable pub verif_of : List ℕ → List ℕ → List ℕ → Bool
  verif_of pk msg sig =
      verif_parts pk msg (sig_salt sig) (sig_com1 sig) (sig_com2 sig) (sig_alpha1 sig) (sig_paths sig) (sig_outs sig) (sig_sent sig) (sig_nonce sig)

  -- ---- the trees of both

  -- leaf k of tree e, as the signer has it
  unfoldable pub sign_leaf : List ℕ → List ℕ → List ℕ → ℕ → ℕ → List ℕ
  sign_leaf sk salt mseed e k = lseed mseed salt (solution_of sk) e k

  -- the hidden leaf of tree e, and leaf k as the checker rebuilds it
  unfoldable pub sig_hidden : List ℕ → List ℕ → List ℕ → ℕ → ℕ
  sig_hidden pk msg sig e = hidden_in (challenge (transcript pk (sig_com1 sig) (sig_com2 sig) msg) (sig_nonce sig)) e

  unfoldable pub check_leaf : List ℕ → List ℕ → List ℕ → ℕ → ℕ → List ℕ
  check_leaf pk msg sig e k = lseed_in (sig_salt sig) (sig_paths sig) e (sig_hidden pk msg sig e) k
