-- From the prepared workspace to the signature (document 001, algorithm 3, lines 8 to 12). Assumes nothing.
use mathlib.Core.Path.{◌≡◌, refl, sym, ap, ap₂, subst, ◌∙◌}
use mathlib.Core.Bool.{Bool, true, false}
use mathlib.Core.List.{List, [], ◌∷◌, ◌++◌}
use mathlib.Core.Option.{none, some}
use Prim.Native.Nat.{ℕ, ◌+◌, ◌*◌, ◌<◌, ◌≤◌}
use native.Mathlib.Omega.{arith}
use lib.ListN.{length}
use Rattle.octets.specs.Lists.{part, joined, bytes_of}
use Rattle.octets.specs.Place.{place}
use Rattle.octets.proofs.Part.{part-joined}
use Rattle.octets.proofs.Place.{length-place}
use Rattle.octets.proofs.Frame.{part-place, part-before, part-after, part-add, part-part}
use Rattle.paper.specs.Symmetric.{hash, for_commitment, for_alphas}
use Rattle.paper.specs.Keys.{public_of, solution_of}
use Rattle.paper.specs.Commit.{com1, com1_from, sent_at}
use Rattle.paper.specs.Alpha.{r3, com2_from}
use Rattle.paper.specs.Challenge.{challenge, hidden_in, passes, first_below}
use Rattle.paper.specs.Scheme.{transcript, sign_com1, sign_com2, sign_alpha1, sign_challenge, sign_with, with_nonce, sign_of}
use Rattle.paper.proofs.Keys.{length-solution_of}
use Rattle.paper.proofs.Commit.{length-sent}
use Rattle.paper.proofs.Challenge.{hidden-lt}
use Rattle.std.specs.Prelude.{Some, None}
use Rattle.transcript.specs.Search.{search_of}
use Rattle.transcript.proofs.Nonces.{found_some, spent-none}
use Rattle.workspace.specs.Map.{at_com1, at_hashes, at_sent, at_com2, at_alpha0, at_alpha1, at_roots}
use Rattle.signer.specs.State.{Prepared}
use Rattle.signer.specs.Written.{Openable, openings, signature_of, Answers, Signed}
use Rattle.workspace.proofs.Lent.{Lent}
use Rattle.signer.proofs.Openings.{signature-whole}

-- ---- the signature from its parts: the head stands in s1, the nonce's room p came back as n, and the openings were written behind

pub signature-written : (m salt x c1 c2 a1 h c s s1 p n s2 s3 nonce : List ℕ) → length salt ≡ 16 → length c1 ≡ 32 → length c2 ≡ 32 → length a1 ≡ 476
    → length nonce ≡ 4
    → length s ≡ 3484
    → length m ≡ 16
    → length x ≡ 28
    → s1 ≡ place 0 (salt ++ (c1 ++ (c2 ++ a1))) s
    → Lent 3480 4 s1 p n s2
    → n ≡ nonce
    → c ≡ challenge h (part 3480 4 s2)
    → s3 ≡ openings m salt x (hidden_in c) 17 s2
    → s3 ≡ signature_of m salt x c1 c2 a1 (challenge h nonce) nonce
unfolding signature_of
signature-written m salt x c1 c2 a1 h c s s1 p n s2 s3 nonce ls l1 l2 la ln l lm lx e1 k en ec e3 =
    e3
    ∙ ap (λ (u : List ℕ). openings m salt x (hidden_in u) 17 s2) sampled
    ∙ ap (openings m salt x (hidden_in (challenge h nonce)) 17) placed
    ∙ signature-whole m salt x (hidden_in (challenge h nonce)) lm lx (hidden-lt h nonce) c1 c2 a1 nonce s ls l1 l2 la ln l
  where
    long : length s1 ≡ 3484
    long = ap length e1 ∙ length-place 0 _ s ∙ l

    placed : s2 ≡ place 3480 nonce (place 0 (salt ++ (c1 ++ (c2 ++ a1))) s)
    placed = k.after ∙ ap₂ (place 3480) en e1

    sampled : c ≡ challenge h nonce
    sampled = ec ∙ ap (challenge h) (ap (part 3480 4) k.after ∙ part-place 3480 4 n s1 k.size (omega (arith, long)) ∙ en)

-- ---- the workspace with the selectors a and b of the two commitments

abbrev w1 : ℕ → List ℕ → List ℕ
w1 a w = place at_com1 (a ∷ []) w

abbrev w2 : ℕ → ℕ → List ℕ → List ℕ
w2 a b w = place at_com2 (b ∷ []) (w1 a w)

module _ (sk salt m w : List ℕ) (ok : Bool) (a b : ℕ) (hk : length sk ≡ 88) (hm : length m ≡ 16) (hw : length w ≡ 65536) (p : Prepared sk salt m ok w) where
  len1 : length (w1 a w) ≡ 65536
  len1 = length-place at_com1 (a ∷ []) w ∙ hw

  -- what lies behind both
  behind : (o n : ℕ) → 42401 ≤ o → o + n ≤ 65536 → part o n (w2 a b w) ≡ part o n w
  behind o n h k = part-after o n at_com2 (b ∷ []) (w1 a w) h (omega (arith, len1)) ∙ part-after o n at_com1 (a ∷ []) w (omega arith) (omega arith)

  com1-is : hash for_commitment (part at_hashes 748 w) ≡ sign_com1 r3 sk salt m
  unfolding sign_com1 com1 com1_from
  com1-is = ap (hash for_commitment) (part-add at_hashes 544 204 w ∙ ap₂ ◌++◌ p.hashes p.sents)

  com2-is : hash for_alphas (part at_alpha0 952 (w1 a w)) ≡ sign_com2 r3 sk salt m
  unfolding sign_com2 com2_from
  com2-is =
      ap (hash for_alphas)
      (part-after at_alpha0 952 at_com1 (a ∷ []) w (omega arith) (omega arith) ∙ part-add at_alpha0 476 476 w ∙ ap₂ ◌++◌ p.alphas0 p.alphas1)

  alphas-in : part at_alpha1 476 (w2 a b w) ≡ joined 17 (sign_alpha1 r3 sk salt m)
  alphas-in = behind at_alpha1 476 (omega arith) (omega arith) ∙ p.alphas1

  sent-in : (e : ℕ) → e < 17 → part (at_sent + 12 * e) 12 w ≡ sent_at 28 m salt (solution_of sk) e
  sent-in e he =
      sym (part-part at_sent 204 (12 * e) 12 w (omega arith) (omega arith))
      ∙ ap (part (12 * e) 12) p.sents
      ∙ part-joined 17 12 (sent_at 28 m salt (solution_of sk)) (λ k hk'. length-sent m salt (solution_of sk) hm (length-solution_of sk hk) 28 k) e he

  openable : Openable m salt (solution_of sk) (w2 a b w)
  openable = record {
    seed = hm;
    roots = λ e he. behind (at_roots + 16 * e) 16 (omega arith) (omega arith) ∙ p.roots e he;
    sents = λ e he.
        part-before (at_sent + 12 * e) 12 at_com2 (b ∷ []) (w1 a w) (omega arith) (omega (arith, len1))
        ∙ part-after (at_sent + 12 * e) 12 at_com1 (a ∷ []) w (omega arith) (omega arith)
        ∙ sent-in e he;
  }

-- ---- the search

module _ (sk msg salt m h : List ℕ) (tries : ℕ) (eh : h ≡ transcript (public_of sk) (sign_com1 r3 sk salt m) (sign_com2 r3 sk salt m) msg) where
  same : first_below (λ n. passes (challenge h (bytes_of 4 n))) tries ≡ first_below (λ n. passes (sign_challenge r3 sk msg salt m n)) tries
  unfolding sign_challenge
  same = ap (λ (t : List ℕ). first_below (λ n. passes (challenge t (bytes_of 4 n))) tries) eh

  answers-found : (n : ℕ) (sig sig' c1 c2 a1 : List ℕ) → Some n ≡ search_of (first_below (λ n. passes (challenge h (bytes_of 4 n))) tries)
      → c1 ≡ sign_com1 r3 sk salt m
      → c2 ≡ sign_com2 r3 sk salt m
      → a1 ≡ joined 17 (sign_alpha1 r3 sk salt m)
      → sig' ≡ signature_of m salt (solution_of sk) c1 c2 a1 (challenge h (bytes_of 4 n)) (bytes_of 4 n)
      → Answers sk msg salt m tries sig 0 sig'
  unfolding sign_of with_nonce sign_with sign_challenge signature_of
  answers-found n sig sig' c1 c2 a1 found e1 e2 ea e =
      let is : sign_of r3 sk msg salt m tries ≡ some (sign_with r3 sk msg salt m n) =
      ap (with_nonce r3 sk msg salt m) (sym same ∙ found_some _ n (sym found)) in
      let w : sig' ≡ sign_with r3 sk msg salt m n = e ∙ cc in
      record {
        spent = λ q. let z : ◌≡◌ {A = ℕ} 0 1 = cc in absurd (omega arith);
        done = λ b q. (refl, cc);
      }

  answers-spent : (sig : List ℕ) → None ≡ search_of (first_below (λ n. passes (challenge h (bytes_of 4 n))) tries) → Answers sk msg salt m tries sig 5 sig
  unfolding sign_of with_nonce
  answers-spent sig found =
      let is : sign_of r3 sk msg salt m tries ≡ none = ap (with_nonce r3 sk msg salt m) (sym same ∙ spent-none _ (sym found)) in
      record {
        spent = λ q. (refl, refl);
        done = λ b q. let z : ◌≡◌ {A = ℕ} 0 1 = cc in absurd (omega arith);
      }

-- ---- the same, from what the code leaves: x1 and x2 are the workspace after each commitment, h the Fiat-Shamir hash

module _ (sk msg salt m w : List ℕ) (ok : Bool) (a b h x1 x2 : List ℕ) (s1 s2 tries : ℕ)
    (hk : length sk ≡ 88) (hm : length m ≡ 16) (hw : length w ≡ 65536) (p : Prepared sk salt m ok w)
    (ea : a ≡ hash for_commitment (part at_hashes 748 w)) (e1 : x1 ≡ w1 s1 w)
    (eb : b ≡ hash for_alphas (part at_alpha0 952 x1)) (e2 : x2 ≡ place at_com2 (s2 ∷ []) x1)
    (eh : h ≡ transcript (public_of sk) a b msg) where
  first : a ≡ sign_com1 r3 sk salt m
  first = ea ∙ com1-is sk salt m w ok s1 s2 hk hm hw p

  second : b ≡ sign_com2 r3 sk salt m
  second = eb ∙ ap (λ (t : List ℕ). hash for_alphas (part at_alpha0 952 t)) e1 ∙ com2-is sk salt m w ok s1 s2 hk hm hw p

  both : x2 ≡ w2 s1 s2 w
  both = e2 ∙ ap (place at_com2 (s2 ∷ [])) e1

  hashed : h ≡ transcript (public_of sk) (sign_com1 r3 sk salt m) (sign_com2 r3 sk salt m) msg
  hashed = eh ∙ ap₂ (λ (y : List ℕ) (z : List ℕ). transcript (public_of sk) y z msg) first second

  pub found-answers : (n : ℕ) (sig sig' : List ℕ) → Some n ≡ search_of (first_below (λ n. passes (challenge h (bytes_of 4 n))) tries)
      → ((m : List ℕ) → Openable m salt (solution_of sk) x2 → sig' ≡ signature_of m salt (solution_of sk) a b (part at_alpha1 476 x2) (challenge h (bytes_of 4 n)) (bytes_of 4 n))
      → Answers sk msg salt m tries sig 0 sig'
  found-answers n sig sig' f e =
      answers-found sk msg salt m h tries hashed n sig sig' a b (part at_alpha1 476 x2) f first second
      (ap (part at_alpha1 476) both ∙ alphas-in sk salt m w ok s1 s2 hk hm hw p)
      (e m (subst (Openable m salt (solution_of sk)) (sym both) (openable sk salt m w ok s1 s2 hk hm hw p)))

  pub spent-answers : (sig : List ℕ) → None ≡ search_of (first_below (λ n. passes (challenge h (bytes_of 4 n))) tries) → Answers sk msg salt m tries sig 5 sig
  spent-answers sig f = answers-spent sk msg salt m h tries hashed sig f

-- ---- the number

module _ (sk msg salt m w : List ℕ) (tries : ℕ) (ok : Bool) (sig : List ℕ) (p : Prepared sk salt m ok w) where
  pub signed-unsolved : ok ≡ false → Signed sk msg salt m tries sig 4 sig
  signed-unsolved e = record {
    unsolved = λ q. (refl, refl);
    spent = λ q. let h = p.holds in let z : ◌≡◌ {A = ℕ} 0 1 = cc in absurd (omega arith);
    done = λ q. let h = p.holds in let z : ◌≡◌ {A = ℕ} 0 1 = cc in absurd (omega arith);
  }

  pub signed-answer : (r : ℕ) (sig' : List ℕ) → ok ≡ true → Answers sk msg salt m tries sig r sig' → Signed sk msg salt m tries sig r sig'
  signed-answer r sig' e a = record {
    unsolved = λ q. let h = p.holds in let z : ◌≡◌ {A = ℕ} 0 1 = cc in absurd (omega arith);
    spent = λ q. a.spent;
    done = λ q. a.done;
  }
