-- The openings of all repetitions, and the whole signature, from the parts that are written. Assumes nothing.
use mathlib.Core.Path.{◌≡◌, sym, ap, ap₂, ◌∙◌}
use mathlib.Core.List.{List, ◌++◌, append_assoc}
use Prim.Native.Nat.{ℕ, suc, ◌+◌, ◌*◌, ◌<◌, ◌≤◌}
use native.Mathlib.Omega.{arith}
use native.Mathlib.Numerals.{add-one}
use lib.ListN.{length, length-append}
use Rattle.octets.specs.Lists.{part, joined}
use Rattle.octets.specs.Place.{place}
use Rattle.octets.proofs.Part.{length-joined}
use Rattle.octets.proofs.Place.{length-place, place-extend, place-apart, place-whole, place_none, place-turn}
use Rattle.paper.specs.Commit.{path_at, lscom, sent_at, opening}
use Rattle.paper.proofs.Commit.{length-path_at, length-lscom, length-sent}
use Rattle.signer.specs.Written.{Openable, opening_at, openings}
use Rattle.workspace.specs.Map.{at_sent}
use Rattle.workspace.proofs.Lent.{Lent}

-- a part right behind what stands at the front
next : (r x s : List ℕ) (b : ℕ) → b ≡ length r → place 0 r (place b x s) ≡ place 0 (r ++ x) s
next r x s b e = place-apart 0 r b x s (omega arith) ∙ place-extend 0 r x s b (omega arith)

-- the four parts of a head, written one behind the other
pub head-written : (a b c d s : List ℕ) {s1 s2 s3 s4 : List ℕ} → length a ≡ 16 → length b ≡ 32 → length c ≡ 32
    → s1 ≡ place 0 a s
    → s2 ≡ place 16 b s1
    → s3 ≡ place 48 c s2
    → s4 ≡ place 80 d s3
    → s4 ≡ place 0 (a ++ (b ++ (c ++ d))) s
head-written a b c d s la lb lc e1 e2 e3 e4 =
    e4
    ∙ ap (place 80 d) (e3 ∙ ap (place 48 c) (e2 ∙ ap (place 16 b) e1 ∙ place-extend 0 a b s 16 (omega arith)) ∙ place-extend 0 (a ++ b) c s 48 (omega (arith, length-append a b)))
    ∙ place-extend 0 ((a ++ b) ++ c) d s 80 (omega (arith, length-append (a ++ b) c, length-append a b))
    ∙ ap (λ (l : List ℕ). place 0 l s) (simp append_assoc)

module _ (m salt x : List ℕ) (i : ℕ → ℕ) where
  abbrev path : ℕ → List ℕ
  path e = path_at m salt x e (i e)

  abbrev out : ℕ → List ℕ
  out e = lscom m salt x e (i e)

  abbrev sent : ℕ → List ℕ
  sent = sent_at 28 m salt x

  pub openings-start : (s : List ℕ) → s ≡ openings m salt x i 0 s
  unfolding openings joined
  openings-start s = sym (place_none 556 _ ∙ place_none 2732 _ ∙ place_none 3276 s)

  pub length-openings : (n : ℕ) (s : List ℕ) → length (openings m salt x i n s) ≡ length s
  unfolding openings
  length-openings n s = simp length-place

  module _ (hm : length m ≡ 16) (hx : length x ≡ 28) (hi : (e : ℕ) → i e < 256) where
    length-paths : (n : ℕ) → n ≤ 17 → length (joined n path) ≡ n * 128
    length-paths n h = length-joined n 128 path (λ e he. length-path_at m salt x hm hx e (i e) (omega arith))

    length-outs : (n : ℕ) → n ≤ 17 → length (joined n out) ≡ n * 32
    length-outs n h = length-joined n 32 out (λ e he. length-lscom m salt x hm hx e (i e) (omega arith) (hi e))

    length-sents : (n : ℕ) → length (joined n sent) ≡ n * 12
    length-sents n = length-joined n 12 sent (λ e he. length-sent m salt x hm hx 28 e)

    pub openings-turn : (e : ℕ) (s : List ℕ) → e < 17 → opening_at m salt x i e (openings m salt x i e s) ≡ openings m salt x i (e + 1) s
    unfolding openings opening_at
    openings-turn e s h =
        let u = place 3276 (joined e sent) s in
        let v = place 2732 (joined e out) u in
        let lp = length-paths e (omega arith) in
        let lp' = length-paths (suc e) (omega arith) in
        let lo = length-outs e (omega arith) in
        let lo' = length-outs (suc e) (omega arith) in
        let ls = length-sents e in
        rw (add-one, place-turn 556 path e v (556 + 128 * e) (omega arith))
        (ap (place (3276 + 12 * e) (sent e))
        (sym (place-apart 556 (joined (suc e) path) (2732 + 32 * e) (out e) v (omega arith))
        ∙ ap (place 556 (joined (suc e) path)) (place-turn 2732 out e u (2732 + 32 * e) (omega arith)))
        ∙ sym (place-apart 556 (joined (suc e) path) (3276 + 12 * e) (sent e) (place 2732 (joined (suc e) out) u) (omega arith))
        ∙ ap (place 556 (joined (suc e) path))
        (sym (place-apart 2732 (joined (suc e) out) (3276 + 12 * e) (sent e) u (omega arith))
        ∙ ap (place 2732 (joined (suc e) out)) (place-turn 3276 sent e s (3276 + 12 * e) (omega arith))))

    -- the parts of a signature, written into a buffer of the right length, make it
    pub whole : (head nonce s : List ℕ) → length head ≡ 556 → length nonce ≡ 4 → length s ≡ 3484
        → openings m salt x i 17 (place 3480 nonce (place 0 head s)) ≡ head ++ (joined 17 path ++ (joined 17 out ++ (joined 17 sent ++ nonce)))
    unfolding openings
    whole head nonce s h k l =
        let f = joined 17 path in
        let g = joined 17 out in
        let d = joined 17 sent in
        let lf : length (head ++ f) ≡ 2732 = omega (arith, length-append head f, length-paths 17 (omega arith)) in
        let lg : length ((head ++ f) ++ g) ≡ 3276 = omega (arith, length-append (head ++ f) g, length-outs 17 (omega arith)) in
        let ld : length (((head ++ f) ++ g) ++ d) ≡ 3480 = omega (arith, length-append ((head ++ f) ++ g) d, length-sents 17) in
        let ln : length ((((head ++ f) ++ g) ++ d) ++ nonce) ≡ 3484 = omega (arith, length-append (((head ++ f) ++ g) ++ d) nonce) in
        ap (λ (t : List ℕ). place 556 f (place 2732 g (place 3276 d t))) (sym (place-apart 0 head 3480 nonce s (omega arith)))
        ∙ ap (λ (t : List ℕ). place 556 f (place 2732 g t)) (sym (place-apart 0 head 3276 d (place 3480 nonce s) (omega arith)))
        ∙ ap (place 556 f) (sym (place-apart 0 head 2732 g (place 3276 d (place 3480 nonce s)) (omega arith)))
        ∙ place-extend 0 head f (place 2732 g (place 3276 d (place 3480 nonce s))) 556 (omega arith)
        ∙ next (head ++ f) g (place 3276 d (place 3480 nonce s)) 2732 (omega arith)
        ∙ next ((head ++ f) ++ g) d (place 3480 nonce s) 3276 (omega arith)
        ∙ next (((head ++ f) ++ g) ++ d) nonce s 3480 (omega arith)
        ∙ place-whole ((((head ++ f) ++ g) ++ d) ++ nonce) s (omega arith)
        ∙ simp append_assoc

    -- the same, from what the code leaves: the head, the nonce that came back, and the openings of the challenge
    pub signature-whole : (c1 c2 a1 nonce s : List ℕ) → length salt ≡ 16 → length c1 ≡ 32 → length c2 ≡ 32 → length a1 ≡ 476 → length nonce ≡ 4
        → length s ≡ 3484
        → openings m salt x i 17 (place 3480 nonce (place 0 (salt ++ (c1 ++ (c2 ++ a1))) s))
        ≡ (salt ++ c1 ++ c2 ++ a1 ++ opening 28 m salt x i ++ nonce)
    unfolding opening
    signature-whole c1 c2 a1 nonce s ls l1 l2 la ln l =
        whole (salt ++ (c1 ++ (c2 ++ a1))) nonce s (simp length-append (omega arith)) ln l ∙ simp append_assoc

-- the opening of repetition e: the path's room p came back as path, and d is what the workspace has of the correction
pub opening-written : (m salt x : List ℕ) (i : ℕ → ℕ) (e : ℕ) (w s p path s1 out s2 d s3 : List ℕ) → e < 17 → Openable m salt x w
    → Lent (556 + 128 * e) 128 s p path s1
    → path ≡ path_at m salt x e (i e)
    → out ≡ lscom m salt x e (i e)
    → s2 ≡ place (2732 + 32 * e) out s1
    → d ≡ part (at_sent + 12 * e) 12 w
    → s3 ≡ place (3276 + 12 * e) d s2
    → s3 ≡ opening_at m salt x i e s
unfolding opening_at
opening-written m salt x i e w s p path s1 out s2 d s3 he g l ep eo e2 ed e3 =
    e3
    ∙ ap₂ (place (3276 + 12 * e)) (ed ∙ g.sents e he)
    (e2 ∙ ap₂ (place (2732 + 32 * e)) eo (l.after ∙ ap (λ (t : List ℕ). place (556 + 128 * e) t s) ep))
