-- A repetition committed to: what stands in the workspace after the writes of commit_one. Assumes nothing.
use mathlib.Core.Path.{◌≡◌, refl, sym, ap, subst, ◌∙◌}
use mathlib.Core.List.{List}
use Prim.Native.Nat.{ℕ, ◌+◌, ◌*◌, ◌<◌, ◌≤◌}
use native.Mathlib.Omega.{arith}
use borrow.Author.Count.{below_more}
use lib.ListN.{length}
use Rattle.octets.specs.Lists.{vec, tab, part, joined}
use Rattle.octets.specs.Place.{place}
use Rattle.octets.proofs.Tab.{vec-tab}
use Rattle.octets.proofs.Part.{vec-part}
use Rattle.octets.proofs.Place.{length-place}
use Rattle.octets.proofs.Frame.{vec-place, vec-place-before, part-place, part-before, part-after, part-turn, part_none}
use Rattle.paper.specs.Commit.{rseed, hash_ls_com, lscom, sent_at, u0_at, u1_at, x0_at}
use Rattle.seeds.specs.Expanded.{plain_keys}
use Rattle.equations.specs.Put.{Put}
use Rattle.workspace.specs.Map.{at_vectors, at_tree, at_hashes, at_sent, at_alpha0, at_alpha1, at_roots}
use Rattle.signer.specs.State.{Within, Committed}
use Rattle.workspace.proofs.Lent.{Lent, length-after}
use Rattle.signer.proofs.Within.{within-place, within_more, within-before, within-behind}
use Rattle.signer.proofs.Roots.{root-at}

-- ---- the bytes of repetition e that are hashed

-- after one write, two, three, all four
abbrev w1 : List ℕ → ℕ → List ℕ → List ℕ
w1 w e h = place (at_hashes + 32 * e) h w

abbrev w2 : List ℕ → ℕ → List ℕ → List ℕ → List ℕ
w2 w e h u0 = place (at_alpha0 + 28 * e) u0 (w1 w e h)

abbrev w3 : List ℕ → ℕ → List ℕ → List ℕ → List ℕ → List ℕ
w3 w e h u0 u1 = place (at_alpha1 + 28 * e) u1 (w2 w e h u0)

abbrev pub after_lines : List ℕ → ℕ → List ℕ → List ℕ → List ℕ → List ℕ → List ℕ
after_lines w e h u0 u1 d = place (at_sent + 12 * e) d (w3 w e h u0 u1)

module _ (w : List ℕ) (e : ℕ) (h u0 u1 d : List ℕ) (hw : length w ≡ 65536) (he : e < 17)
    (lh : length h ≡ 32) (l0 : length u0 ≡ 28) (l1 : length u1 ≡ 28) (ld : length d ≡ 12) where
  len1 : length (w1 w e h) ≡ 65536
  len1 = length-place _ h w ∙ hw

  len2 : length (w2 w e h u0) ≡ 65536
  len2 = length-place _ u0 (w1 w e h) ∙ len1

  len3 : length (w3 w e h u0 u1) ≡ 65536
  len3 = length-place _ u1 (w2 w e h u0) ∙ len2

  kept-behind : (a n : ℕ) → 43353 ≤ a → a + n ≤ 65536 → part a n (after_lines w e h u0 u1 d) ≡ part a n w
  kept-behind a n p q =
      part-after a n _ d (w3 w e h u0 u1) (omega arith) (omega (arith, len3))
      ∙ part-after a n _ u1 (w2 w e h u0) (omega arith) (omega (arith, len2))
      ∙ part-after a n _ u0 (w1 w e h) (omega arith) (omega (arith, len1))
      ∙ part-after a n _ h w (omega arith) (omega arith)

  kept-before : (i : ℕ) → i < 41601 → vec (after_lines w e h u0 u1 d) i ≡ vec w i
  kept-before i p =
      vec-place-before _ d (w3 w e h u0 u1) i (omega arith)
      ∙ vec-place-before _ u1 (w2 w e h u0) i (omega arith)
      ∙ vec-place-before _ u0 (w1 w e h) i (omega arith)
      ∙ vec-place-before _ h w i (omega arith)

  hashes-turn : (f : ℕ → List ℕ) → part at_hashes (32 * e) w ≡ joined e f → h ≡ f e
      → part at_hashes (32 * (e + 1)) (after_lines w e h u0 u1 d) ≡ joined (e + 1) f
  hashes-turn f p q =
      part-before at_hashes (32 * (e + 1)) _ d (w3 w e h u0 u1) (omega arith) (omega (arith, len3))
      ∙ part-before at_hashes (32 * (e + 1)) _ u1 (w2 w e h u0) (omega arith) (omega (arith, len2))
      ∙ part-before at_hashes (32 * (e + 1)) _ u0 (w1 w e h) (omega arith) (omega (arith, len1))
      ∙ part-turn at_hashes 32 e f h w _ p q (ap length (sym q) ∙ lh) refl (omega arith)

  sents-turn : (f : ℕ → List ℕ) → part at_sent (12 * e) w ≡ joined e f → d ≡ f e
      → part at_sent (12 * (e + 1)) (after_lines w e h u0 u1 d) ≡ joined (e + 1) f
  sents-turn f p q =
      part-turn at_sent 12 e f d (w3 w e h u0 u1) _
      (part-before at_sent (12 * e) _ u1 (w2 w e h u0) (omega arith) (omega (arith, len2))
      ∙ part-before at_sent (12 * e) _ u0 (w1 w e h) (omega arith) (omega (arith, len1))
      ∙ part-after at_sent (12 * e) _ h w (omega arith) (omega arith)
      ∙ p)
      q (ap length (sym q) ∙ ld) refl (omega (arith, len3))

  masks0-turn : (f : ℕ → List ℕ) → part at_alpha0 (28 * e) w ≡ joined e f → u0 ≡ f e
      → part at_alpha0 (28 * (e + 1)) (after_lines w e h u0 u1 d) ≡ joined (e + 1) f
  masks0-turn f p q =
      part-after at_alpha0 (28 * (e + 1)) _ d (w3 w e h u0 u1) (omega arith) (omega (arith, len3))
      ∙ part-before at_alpha0 (28 * (e + 1)) _ u1 (w2 w e h u0) (omega arith) (omega (arith, len2))
      ∙ part-turn at_alpha0 28 e f u0 (w1 w e h) _
      (part-after at_alpha0 (28 * e) _ h w (omega arith) (omega arith) ∙ p)
      q (ap length (sym q) ∙ l0) refl (omega (arith, len1))

  masks1-turn : (f : ℕ → List ℕ) → part at_alpha1 (28 * e) w ≡ joined e f → u1 ≡ f e
      → part at_alpha1 (28 * (e + 1)) (after_lines w e h u0 u1 d) ≡ joined (e + 1) f
  masks1-turn f p q =
      part-after at_alpha1 (28 * (e + 1)) _ d (w3 w e h u0 u1) (omega arith) (omega (arith, len3))
      ∙ part-turn at_alpha1 28 e f u1 (w2 w e h u0) _
      (part-after at_alpha1 (28 * e) _ u0 (w1 w e h) (omega arith) (omega (arith, len1))
      ∙ part-after at_alpha1 (28 * e) _ h w (omega arith) (omega arith)
      ∙ p)
      q (ap length (sym q) ∙ l1) refl (omega (arith, len2))

  kept-within : (s : List ℕ) → Within 18304 25049 s w → Within 18304 25049 s (after_lines w e h u0 u1 d)
  kept-within s p =
      let p1 = within_more 18304 25049 s w (at_hashes + 32 * e) h p (omega arith) (omega arith) in
      let p2 = within_more 18304 25049 s (w1 w e h) (at_alpha0 + 28 * e) u0 p1 (omega arith) (omega arith) in
      let p3 = within_more 18304 25049 s (w2 w e h u0) (at_alpha1 + 28 * e) u1 p2 (omega arith) (omega arith) in
      within_more 18304 25049 s (w3 w e h u0 u1) (at_sent + 12 * e) d p3 (omega arith) (omega arith)

-- ---- with the tree's room t and the vectors v written before them

abbrev pub after_tree : List ℕ → List ℕ → List ℕ → List ℕ
after_tree w t v = place at_vectors v (place at_tree t w)

module _ (e : ℕ) (w t v h u0 u1 d : List ℕ) (hw : length w ≡ 65536) (he : e < 17) (lt : length t ≡ 12289) (lv : length v ≡ 10944)
    (lh : length h ≡ 32) (l0 : length u0 ≡ 28) (l1 : length u1 ≡ 28) (ld : length d ≡ 12) where
  len0 : length (place at_tree t w) ≡ 65536
  len0 = length-place at_tree t w ∙ hw

  len : length (after_tree w t v) ≡ 65536
  len = length-place at_vectors v (place at_tree t w) ∙ len0

  scratch : Within 18304 23233 w (after_tree w t v)
  scratch =
      within_more 18304 23233 w (place at_tree t w) at_vectors v
      (within-place 18304 23233 at_tree t w (omega arith) (omega arith)) (omega arith) (omega arith)

  same : (a n : ℕ) → 41537 ≤ a → a + n ≤ 65536 → part a n (after_tree w t v) ≡ part a n w
  same a n p q = within-behind 18304 23233 w (after_tree w t v) scratch a n p (omega arith)

  pub committed-within : Within 18304 25049 w (after_lines (after_tree w t v) e h u0 u1 d)
  committed-within =
      kept-within (after_tree w t v) e h u0 u1 d len he lh l0 l1 ld w
      (within_more 18304 25049 w (place at_tree t w) at_vectors v
      (within-place 18304 25049 at_tree t w (omega arith) (omega arith)) (omega arith) (omega arith))

  module _ (m salt x x0 : List ℕ) (put : Put (part at_vectors 10944 (place at_tree t w)) 56 (λ k. 192 * k + e) (vec x0) v)
      (ex0 : x0 ≡ tab 56 (x0_at 28 m salt x e)) where
    -- lane l of vector k after the writes
    in_lane : (l k : ℕ) → l < 17 → k < 56 → vec (after_lines (after_tree w t v) e h u0 u1 d) (at_vectors + (192 * k + l)) ≡ vec v (192 * k + l)
    in_lane l k hl hk =
        kept-before (after_tree w t v) e h u0 u1 d len he lh l0 l1 ld (at_vectors + (192 * k + l)) (omega arith)
        ∙ vec-place at_vectors v (place at_tree t w) (192 * k + l) (omega arith) (omega (arith, len0))

    pub lanes-turn : ((l k : ℕ) → l < e → k < 56 → vec w (at_vectors + (192 * k + l)) ≡ x0_at 28 m salt x l k)
        → (l k : ℕ) → l < e + 1 → k < 56 → vec (after_lines (after_tree w t v) e h u0 u1 d) (at_vectors + (192 * k + l)) ≡ x0_at 28 m salt x l k
    lanes-turn old l k hl hk =
        below_more (λ (l : ℕ). (k : ℕ) → k < 56 → vec (after_lines (after_tree w t v) e h u0 u1 d) (at_vectors + (192 * k + l)) ≡ x0_at 28 m salt x l k) e
        (λ l hl k hk.
        in_lane l k (omega arith) hk
        ∙ put.others (192 * k + l) (λ j hj q. omega arith)
        ∙ vec-part at_vectors 10944 (place at_tree t w) (192 * k + l) (omega arith)
        ∙ vec-place-before at_tree t w (at_vectors + (192 * k + l)) (omega arith)
        ∙ old l k hl hk)
        (λ k hk. in_lane e k he hk ∙ put.here k hk ∙ ap (λ (z : List ℕ). vec z k) ex0 ∙ vec-tab 56 (x0_at 28 m salt x e) k hk)
        l hl k hk

    pub committed-turn : Committed m salt x e w → h ≡ hash_ls_com (lscom m salt x e) → d ≡ sent_at 28 m salt x e
        → u0 ≡ tab 28 (u0_at 28 m salt x e)
        → u1 ≡ tab 28 (u1_at 28 m salt x e)
        → Committed m salt x (e + 1) (after_lines (after_tree w t v) e h u0 u1 d)
    committed-turn c eh ed e0 e1 = record {
      roots = λ l hl. kept-behind (after_tree w t v) e h u0 u1 d len he lh l0 l1 ld (at_roots + 16 * l) 16 (omega arith) (omega arith) ∙ same (at_roots + 16 * l) 16 (omega arith) (omega arith) ∙ c.roots l hl;
      hashes = hashes-turn (after_tree w t v) e h u0 u1 d len he lh l0 l1 ld (λ e. hash_ls_com (lscom m salt x e)) (same at_hashes (32 * e) (omega arith) (omega arith) ∙ c.hashes) eh;
      sents = sents-turn (after_tree w t v) e h u0 u1 d len he lh l0 l1 ld (sent_at 28 m salt x) (same at_sent (12 * e) (omega arith) (omega arith) ∙ c.sents) ed;
      masks0 = masks0-turn (after_tree w t v) e h u0 u1 d len he lh l0 l1 ld (λ e. tab 28 (u0_at 28 m salt x e)) (same at_alpha0 (28 * e) (omega arith) (omega arith) ∙ c.masks0) e0;
      masks1 = masks1-turn (after_tree w t v) e h u0 u1 d len he lh l0 l1 ld (λ e. tab 28 (u1_at 28 m salt x e)) (same at_alpha1 (28 * e) (omega arith) (omega arith) ∙ c.masks1) e1;
      lanes = lanes-turn c.lanes;
    }

pub committed-none : (m salt x w : List ℕ) → ((e : ℕ) → e < 17 → part (at_roots + 16 * e) 16 w ≡ rseed m e) → Committed m salt x 0 w
committed-none m salt x w roots = record {
  roots = roots;
  hashes = part_none at_hashes 32 _ w;
  sents = part_none at_sent 12 _ w;
  masks0 = part_none at_alpha0 28 _ w;
  masks1 = part_none at_alpha1 28 _ w;
  lanes = λ e k he hk. absurd (omega arith);
}

-- ---- the same, from what the code leaves: the tree's room p came back as t, and the vectors q as v

module _ (w p t y q v z : List ℕ) (hw : length w ≡ 65536) (f : Lent at_tree 12289 w p t y) (g : Lent at_vectors 10944 y q v z) where
  pub length_both : length z ≡ 65536
  length_both = length-after g ∙ length-after f ∙ hw

  module _ (e : ℕ) (h u0 u1 d : List ℕ) {w' : List ℕ} (he : e < 17)
      (lh : length h ≡ 32) (l0 : length u0 ≡ 28) (l1 : length u1 ≡ 28) (ld : length d ≡ 12) (kept : w' ≡ after_lines z e h u0 u1 d) where
    after : after_lines (after_tree w t v) e h u0 u1 d ≡ w'
    after = sym (kept ∙ ap (λ (s : List ℕ). after_lines s e h u0 u1 d) (g.after ∙ ap (place at_vectors v) f.after))

    pub one-within : Within 18304 25049 w w'
    one-within = subst (Within 18304 25049 w) after (committed-within e w t v h u0 u1 d hw he f.size g.size lh l0 l1 ld)

    pub one-committed : (m salt x x0 : List ℕ) → Put q 56 (λ k. 192 * k + e) (vec x0) v
        → x0 ≡ tab 56 (x0_at 28 m salt x e)
        → h ≡ hash_ls_com (lscom m salt x e)
        → d ≡ sent_at 28 m salt x e
        → u0 ≡ tab 28 (u0_at 28 m salt x e)
        → u1 ≡ tab 28 (u1_at 28 m salt x e)
        → Committed m salt x e w
        → Committed m salt x (e + 1) w'
    one-committed m salt x x0 put ex eh ed e0 e1 c =
        subst (Committed m salt x (e + 1)) after
        (committed-turn e w t v h u0 u1 d hw he f.size g.size lh l0 l1 ld m salt x x0
        (subst (λ (s : List ℕ). Put s 56 (λ k. 192 * k + e) (vec x0) v) (g.was ∙ ap (part at_vectors 10944) f.after) put) ex c eh ed e0 e1)

-- ---- the keys k came back, and then the root seeds were written

pub keys-back : {w p k y : List ℕ} → length w ≡ 65536 → Lent 0 18304 w p k y → k ≡ plain_keys → part 0 18304 y ≡ plain_keys
keys-back {w} {k = k} hw l e = ap (part 0 18304) l.after ∙ part-place 0 18304 k w l.size (omega arith) ∙ e

pub keys-end : (w1 r w2 w3 : List ℕ) → length w1 ≡ 65536 → part 0 18304 w1 ≡ plain_keys → w2 ≡ place at_roots r w1 → Within 18304 25049 w2 w3
    → part 0 18304 w3 ≡ plain_keys
keys-end w1 r w2 w3 h k e t =
    within-before 18304 25049 w2 w3 t 0 18304 (omega arith) (omega (arith, ap length e, length-place at_roots r w1))
    ∙ ap (part 0 18304) e
    ∙ part-before 0 18304 at_roots r w1 (omega arith) (omega arith)
    ∙ k

pub committed-start : (w1 w2 m b salt x : List ℕ) → length w1 ≡ 65536 → length m ≡ 16 → b ≡ m → w2 ≡ place at_roots (joined 17 (rseed b)) w1 → Committed m salt x 0 w2
committed-start w1 w2 m b salt x h hm eb e =
    committed-none m salt x w2
    (λ k hk.
    ap (part (at_roots + 16 * k) 16) (e ∙ ap (λ (l : List ℕ). place at_roots (joined 17 (rseed l)) w1) eb) ∙ root-at m hm w1 h k hk)
