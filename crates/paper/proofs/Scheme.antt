-- Condition 3, of the definitions alone. Assumes nothing.
use mathlib.Core.Path.{◌≡◌, refl, sym, ap, ap₂, ◌∙◌, subst, fun_ext}
use mathlib.Core.Logic.{◌≢◌}
use mathlib.Core.List.{List, ◌++◌, append_assoc}
use mathlib.Core.Bool.{true, false, ◌&&◌}
use mathlib.Core.Option.{Option, none, some}
use Prim.Native.Nat.{ℕ, suc, ◌+◌, ◌*◌, ◌<◌, ◌≤◌}
use native.Mathlib.Omega.{arith}
use lib.ListN.{length, length-append}
use Rattle.octets.specs.Lists.{part, joined, bytes_of}
use Rattle.std.proofs.lemmas.Bool.{and_parts}
use Rattle.paper.specs.Symmetric.{hash, for_alphas, for_commitment}
use Rattle.paper.specs.Keys.{public_of, solution_of, mseed_eq_of, y_of, satisfied, key_gen}
use Rattle.paper.specs.Commit.{com1, com1_from, opening, lscom, path_at, sent_at, com1_in, lseed_in}
use Rattle.paper.specs.Alpha.{Variant, r3, HasRows, alpha0_in, com2_from}
use Rattle.paper.specs.Challenge.{challenge, hidden_in, passes, first_below}
use Rattle.paper.specs.Scheme.{transcript, sign_com1, sign_alpha0, sign_alpha1, sign_com2, sign_challenge, sign_with, with_nonce, sign_of, sig_salt, sig_com1, sig_com2, sig_alpha1, sig_paths, sig_outs, sig_sent, sig_nonce, check_challenge, check_com1, check_com2, verif_parts, verif_of, sign_leaf, sig_hidden, check_leaf}
use Rattle.octets.proofs.Part.{part-here, part-all, part-skip, length-joined, length-bytes_of, joined-ext}
use Rattle.octets.proofs.Alike.{alike_of, alike-eq}
use Rattle.paper.proofs.Symmetric.{length-hash}
use Rattle.paper.proofs.Commit.{length-lscom, length-sent, length-path_at, com1-same, lseed-same}
use Rattle.paper.proofs.Alpha.{r3-rows, length-alpha1, alpha0-same}
use Rattle.paper.proofs.Keys.{satisfied-solves, length-solution_of, length-sk, public-of-generated, generated-satisfied}
use Rattle.paper.proofs.Challenge.{First, hidden-lt, first_some, first_more, first_short, first-place}

-- ---- what acceptance means: the nonce passes, and both commitments are the checker's

pub accepts : (v : Variant) (pk msg salt c1 c2 a1 paths outs sent nonce : List ℕ) → verif_parts v pk msg salt c1 c2 a1 paths outs sent nonce ≡ true
    → (passes (challenge (transcript pk c1 c2 msg) nonce) ≡ true)
    × (com1_in salt paths outs sent (hidden_in (challenge (transcript pk c1 c2 msg) nonce)) ≡ c1)
    × (com2_from (alpha0_in v c1 (mseed_eq_of pk) (y_of pk) salt paths sent a1 (hidden_in (challenge (transcript pk c1 c2 msg) nonce))) a1 ≡ c2)
unfolding verif_parts check_challenge check_com1 check_com2
accepts v pk msg salt c1 c2 a1 paths outs sent nonce h =
    let p = and_parts _ _ h in
    let q = and_parts _ _ p.0 in
    (q.0, alike-eq _ _ q.1, alike-eq _ _ p.1)

-- ---- the parts of a signature

pub record Parses (v : Variant) (sig salt c1 c2 a1 paths outs sent nonce : List ℕ) : Type 0 where
  pub salt-is : sig_salt v sig ≡ salt
  pub com1-is : sig_com1 v sig ≡ c1
  pub com2-is : sig_com2 v sig ≡ c2
  pub alpha1-is : sig_alpha1 v sig ≡ a1
  pub paths-is : sig_paths v sig ≡ paths
  pub outs-is : sig_outs v sig ≡ outs
  pub sent_is : sig_sent v sig ≡ sent
  pub nonce-is : sig_nonce v sig ≡ nonce
  pub size_is : length sig ≡ 3008 + 17 * v.eta

module _ (v : Variant) (salt c1 c2 a1 paths outs sent nonce : List ℕ)
    (hs : length salt ≡ 16) (h1 : length c1 ≡ 32) (h2 : length c2 ≡ 32) (ha : length a1 ≡ 17 * v.eta)
    (hp : length paths ≡ 2176) (hc : length outs ≡ 544) (hd : length sent ≡ 204) (hn : length nonce ≡ 4) where
  abbrev laid : List ℕ
  laid = salt ++ (c1 ++ (c2 ++ (a1 ++ (paths ++ (outs ++ (sent ++ nonce))))))

  -- past salt, c1 and c2
  past3 : (o n : ℕ) → part (80 + o) n laid ≡ part o n (a1 ++ (paths ++ (outs ++ (sent ++ nonce))))
  past3 o n =
      ap (λ (p : ℕ). part p n laid) (omega arith)
      ∙ part-skip 16 (32 + (32 + o)) n salt _ hs ∙ part-skip 32 (32 + o) n c1 _ h1 ∙ part-skip 32 o n c2 _ h2

  past4 : (o n : ℕ) → part (80 + 17 * v.eta + o) n laid ≡ part o n (paths ++ (outs ++ (sent ++ nonce)))
  past4 o n = ap (λ (p : ℕ). part p n laid) (omega arith) ∙ past3 (17 * v.eta + o) n ∙ part-skip (17 * v.eta) o n a1 _ ha

  past5 : (o n : ℕ) → part (2256 + 17 * v.eta + o) n laid ≡ part o n (outs ++ (sent ++ nonce))
  past5 o n = ap (λ (p : ℕ). part p n laid) (omega arith) ∙ past4 (2176 + o) n ∙ part-skip 2176 o n paths _ hp

  past6 : (o n : ℕ) → part (2800 + 17 * v.eta + o) n laid ≡ part o n (sent ++ nonce)
  past6 o n = ap (λ (p : ℕ). part p n laid) (omega arith) ∙ past5 (544 + o) n ∙ part-skip 544 o n outs _ hc

  pub parses : Parses v laid salt c1 c2 a1 paths outs sent nonce
  parses = record {
    salt-is = part-here 16 salt _ hs;
    com1-is = part-skip 16 0 32 salt _ hs ∙ part-here 32 c1 _ h1;
    com2-is = part-skip 16 32 32 salt _ hs ∙ part-skip 32 0 32 c1 _ h1 ∙ part-here 32 c2 _ h2;
    alpha1-is = past3 0 (17 * v.eta) ∙ part-here (17 * v.eta) a1 _ ha;
    paths-is = ap (λ (p : ℕ). part p 2176 laid) (omega arith) ∙ past4 0 2176 ∙ part-here 2176 paths _ hp;
    outs-is = ap (λ (p : ℕ). part p 544 laid) (omega arith) ∙ past5 0 544 ∙ part-here 544 outs _ hc;
    sent_is = ap (λ (p : ℕ). part p 204 laid) (omega arith) ∙ past6 0 204 ∙ part-here 204 sent _ hd;
    nonce-is = ap (λ (p : ℕ). part p 4 laid) (omega arith) ∙ past6 204 4 ∙ part-skip 204 0 4 sent nonce hd ∙ part-all 4 nonce hn;
    size_is = simp length-append (omega arith);
  }

pub verif-parsed : (v : Variant) (pk msg sig salt c1 c2 a1 paths outs sent nonce : List ℕ) → Parses v sig salt c1 c2 a1 paths outs sent nonce
    → verif_of v pk msg sig ≡ verif_parts v pk msg salt c1 c2 a1 paths outs sent nonce
unfolding verif_of
verif-parsed v pk msg sig salt c1 c2 a1 paths outs sent nonce p = cc

-- ---- a signature

module _ (v : Variant) (shape : HasRows v) (sk msg salt mseed : List ℕ) (hk : length sk ≡ 88) (hs : length salt ≡ 16) (hm : length mseed ≡ 16) where
  abbrev x : List ℕ
  x = solution_of sk

  abbrev hidden : ℕ → ℕ → ℕ
  hidden n = hidden_in (sign_challenge v sk msg salt mseed n)

  hidden_small : (n e : ℕ) → hidden n e < 256
  unfolding sign_challenge
  hidden_small n e = hidden-lt _ _ e

  hx : length x ≡ 28
  hx = length-solution_of sk hk

  abbrev a1 : List ℕ
  a1 = joined 17 (sign_alpha1 v sk salt mseed)

  abbrev paths : ℕ → List ℕ
  paths n = joined 17 (λ e. path_at mseed salt x e (hidden n e))

  abbrev outs : ℕ → List ℕ
  outs n = joined 17 (λ e. lscom mseed salt x e (hidden n e))

  abbrev sent : List ℕ
  sent = joined 17 (sent_at v.eta mseed salt x)

  h1 : length (sign_com1 v sk salt mseed) ≡ 32
  unfolding sign_com1 com1 com1_from
  h1 = length-hash for_commitment _

  h2 : length (sign_com2 v sk salt mseed) ≡ 32
  unfolding sign_com2 com2_from
  h2 = length-hash for_alphas _

  ha : length a1 ≡ 17 * v.eta
  unfolding sign_alpha1
  ha = length-joined 17 v.eta (sign_alpha1 v sk salt mseed) (λ e he. length-alpha1 v _ _ _ mseed salt x e)

  hp : (n : ℕ) → length (paths n) ≡ 2176
  hp n = length-joined 17 128 (λ e. path_at mseed salt x e (hidden n e)) (λ e he. length-path_at mseed salt x hm hx e (hidden n e) he)

  hc : (n : ℕ) → length (outs n) ≡ 544
  hc n =
      length-joined 17 32 (λ e. lscom mseed salt x e (hidden n e))
      (λ e he. length-lscom mseed salt x hm hx e (hidden n e) he (hidden_small n e))

  hd : length sent ≡ 204
  hd = length-joined 17 12 (sent_at v.eta mseed salt x) (λ e he. length-sent mseed salt x hm hx v.eta e)

  pub parsed : (n : ℕ)
      → Parses v (sign_with v sk msg salt mseed n) salt (sign_com1 v sk salt mseed) (sign_com2 v sk salt mseed) a1 (paths n) (outs n) sent (bytes_of 4 n)
  unfolding sign_with opening
  parsed n =
      subst (λ (s : List ℕ). Parses v s salt (sign_com1 v sk salt mseed) (sign_com2 v sk salt mseed) a1 (paths n) (outs n) sent (bytes_of 4 n))
      (simp append_assoc)
      (parses v salt (sign_com1 v sk salt mseed) (sign_com2 v sk salt mseed) a1 (paths n) (outs n) sent (bytes_of 4 n)
      hs h1 h2 ha (hp n) (hc n) hd (length-bytes_of 4 n))

  verif-parts : (n : ℕ) → satisfied sk ≡ true → passes (sign_challenge v sk msg salt mseed n) ≡ true
      → verif_parts v (public_of sk) msg salt (sign_com1 v sk salt mseed) (sign_com2 v sk salt mseed) a1 (paths n) (outs n) sent (bytes_of 4 n) ≡ true
  unfolding verif_parts check_challenge check_com1 check_com2 sign_challenge sign_com1 sign_com2 sign_alpha0 sign_alpha1 com2_from
  verif-parts n ok p =
      ap₂ ◌&&◌
      (ap₂ ◌&&◌ p (alike_of _ _ (com1-same mseed salt x hm hx (hidden n) (hidden_small n) v.eta)))
      (alike_of _ _
      (ap (λ (h : List ℕ). hash for_alphas (h ++ a1))
      (joined-ext 17 _ _
      (alpha0-same v (com1 v.eta mseed salt x) (mseed_eq_of (public_of sk)) (y_of (public_of sk)) mseed salt x shape hm hx (hidden n) (hidden_small n)
      (satisfied-solves sk ok)))))

  pub verif-with : (n : ℕ) → satisfied sk ≡ true → passes (sign_challenge v sk msg salt mseed n) ≡ true
      → verif_of v (public_of sk) msg (sign_with v sk msg salt mseed n) ≡ true
  verif-with n ok p = verif-parsed v (public_of sk) msg _ _ _ _ _ _ _ _ _ (parsed n) ∙ verif-parts n ok p

  module _ (n : ℕ) where
    abbrev sig : List ℕ
    sig = sign_with v sk msg salt mseed n

    hidden-of : sig_hidden v (public_of sk) msg sig ≡ hidden n
    unfolding sig_hidden sign_challenge
    hidden-of = fun_ext (λ e. let p = parsed n in cc)

    -- in every tree the checker's leaves are the signer's, but for the hidden one
    pub leaves-with : (e k : ℕ) → e < 17 → k ≢ sig_hidden v (public_of sk) msg sig e → check_leaf v (public_of sk) msg sig e k ≡ sign_leaf v sk salt mseed e k
    unfolding check_leaf sign_leaf
    leaves-with e k he ne =
        parts ∙ lseed-same mseed salt x hm hx (hidden n) (hidden_small n) e k he (λ q. ne (q ∙ sym (ap (λ (f : ℕ → ℕ). f e) hidden-of)))
      where
        parts : lseed_in (sig_salt v sig) (sig_paths v sig) e (sig_hidden v (public_of sk) msg sig e) k
            ≡ lseed_in salt (paths n) e (hidden n e) k
        parts = let p = parsed n in cc hidden-of

  -- ---- Sign with tries

  -- what holds of each signature with a passing nonce holds of what Sign gives
  each : (P : List ℕ → Type 0) (tries : ℕ) (sig : List ℕ) → sign_of v sk msg salt mseed tries ≡ some sig
      → ((n : ℕ) → First (λ n. passes (sign_challenge v sk msg salt mseed n)) tries n → P (sign_with v sk msg salt mseed n)) → P sig
  unfolding sign_of with_nonce
  each P tries sig e h = go (first_below (λ n. passes (sign_challenge v sk msg salt mseed n)) tries) refl e
    where
      go : (o : Option ℕ) → first_below (λ n. passes (sign_challenge v sk msg salt mseed n)) tries ≡ o → with_nonce v sk msg salt mseed o ≡ some sig → P sig
      go none q e = let z : ◌≡◌ {A = ℕ} 0 1 = cc in absurd (omega arith)
      go (some n) q e =
          let s : sign_with v sk msg salt mseed n ≡ sig = cc in
          subst P s (h n (first_some (λ n. passes (sign_challenge v sk msg salt mseed n)) tries n q))

  pub verif-sign : (tries : ℕ) (sig : List ℕ) → satisfied sk ≡ true → sign_of v sk msg salt mseed tries ≡ some sig → verif_of v (public_of sk) msg sig ≡ true
  verif-sign tries sig ok e = each (λ s. verif_of v (public_of sk) msg s ≡ true) tries sig e (λ n f. verif-with n ok f.holds)

  pub leaves-sign : (tries : ℕ) (sig : List ℕ) → sign_of v sk msg salt mseed tries ≡ some sig
      → (e k : ℕ) → e < 17 → k ≢ sig_hidden v (public_of sk) msg sig e → check_leaf v (public_of sk) msg sig e k ≡ sign_leaf v sk salt mseed e k
  leaves-sign tries sig e =
      each (λ s. (e k : ℕ) → e < 17 → k ≢ sig_hidden v (public_of sk) msg s e → check_leaf v (public_of sk) msg s e k ≡ sign_leaf v sk salt mseed e k) tries sig e
      (λ n f. leaves-with n)

  pub length-sign : (tries : ℕ) (sig : List ℕ) → sign_of v sk msg salt mseed tries ≡ some sig → length sig ≡ 3008 + 17 * v.eta
  length-sign tries sig e = each (λ s. length s ≡ 3008 + 17 * v.eta) tries sig e (λ n f. (parsed n).size_is)

-- ---- tries

module _ (v : Variant) (sk msg salt mseed : List ℕ) where
  -- more tries give the same signature
  pub sign-more : (t u : ℕ) (sig : List ℕ) → t ≤ u → sign_of v sk msg salt mseed t ≡ some sig → sign_of v sk msg salt mseed u ≡ some sig
  unfolding sign_of with_nonce
  sign-more t u sig h e = go (first_below (λ n. passes (sign_challenge v sk msg salt mseed n)) t) refl e
    where
      go : (o : Option ℕ) → first_below (λ n. passes (sign_challenge v sk msg salt mseed n)) t ≡ o → with_nonce v sk msg salt mseed o ≡ some sig
          → with_nonce v sk msg salt mseed (first_below (λ n. passes (sign_challenge v sk msg salt mseed n)) u) ≡ some sig
      go none q e = cc
      go (some n) q e =
          ap (with_nonce v sk msg salt mseed) (first_more (λ n. passes (sign_challenge v sk msg salt mseed n)) t u n h q) ∙ e

  -- n is the first nonce that passes: n tries give none, and one more signs with it
  abbrev pub FirstPassing : ℕ → Type 0
  FirstPassing n = (passes (sign_challenge v sk msg salt mseed n) ≡ true) × ((k : ℕ) → k < n → passes (sign_challenge v sk msg salt mseed k) ≡ false)

  pub sign-short : (n : ℕ) → FirstPassing n → sign_of v sk msg salt mseed n ≡ none
  unfolding sign_of with_nonce
  sign-short n f = ap (with_nonce v sk msg salt mseed) (first_short (λ n. passes (sign_challenge v sk msg salt mseed n)) n f.1)

  pub sign-place : (n t : ℕ) → FirstPassing n → n < t → sign_of v sk msg salt mseed t ≡ some (sign_with v sk msg salt mseed n)
  unfolding sign_of with_nonce
  sign-place n t f h =
      ap (with_nonce v sk msg salt mseed)
      (first_more (λ n. passes (sign_challenge v sk msg salt mseed n)) (suc n) t n h
      (first-place (λ n. passes (sign_challenge v sk msg salt mseed n)) n f.0 f.1))

-- ---- condition 3, of the set MQOM2-L1-gf16-fast-r3

pub record Signs (sk msg salt mseed : List ℕ) (tries : ℕ) (sig : List ℕ) : Type 0 where
  pub accepted : verif_of r3 (public_of sk) msg sig ≡ true
  pub leaves : (e k : ℕ) → e < 17 → k < 256 → k ≢ sig_hidden r3 (public_of sk) msg sig e → check_leaf r3 (public_of sk) msg sig e k ≡ sign_leaf r3 sk salt mseed e k
  pub size : length sig ≡ 3484
  pub more : (u : ℕ) → tries ≤ u → sign_of r3 sk msg salt mseed u ≡ some sig

pub condition3 : (sk msg salt mseed : List ℕ) (tries : ℕ) (sig : List ℕ) → length sk ≡ 88 → length salt ≡ 16 → length mseed ≡ 16
    → satisfied sk ≡ true → sign_of r3 sk msg salt mseed tries ≡ some sig → Signs sk msg salt mseed tries sig
condition3 sk msg salt mseed tries sig hk hs hm ok e = record {
  accepted = verif-sign r3 r3-rows sk msg salt mseed hk hs hm tries sig ok e;
  leaves = λ t k ht hk' ne. leaves-sign r3 r3-rows sk msg salt mseed hk hs hm tries sig e t k ht ne;
  size = length-sign r3 r3-rows sk msg salt mseed hk hs hm tries sig e;
  more = λ u h. sign-more r3 sk msg salt mseed tries u sig h e;
}

-- and of generated keys
pub generated : (seed_key msg salt mseed : List ℕ) (tries : ℕ) (sig : List ℕ) → length salt ≡ 16 → length mseed ≡ 16
    → sign_of r3 (key_gen seed_key).sk msg salt mseed tries ≡ some sig → verif_of r3 (key_gen seed_key).pk msg sig ≡ true
generated seed_key msg salt mseed tries sig hs hm e =
    ap (λ (p : List ℕ). verif_of r3 p msg sig) (sym (public-of-generated seed_key))
    ∙ verif-sign r3 r3-rows (key_gen seed_key).sk msg salt mseed (length-sk seed_key) hs hm tries sig (generated-satisfied seed_key) e
