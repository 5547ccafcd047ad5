-- The commitment and its opening: what the checker works out of an opening is what the signer had. Assumes nothing.
use mathlib.Core.Path.{◌≡◌, refl, sym, ap, ap₂, ◌∙◌}
use mathlib.Core.Logic.{◌≢◌}
use mathlib.Core.List.{List, [], ◌++◌}
use mathlib.Core.Bool.{Bool, true, false, cond}
use Prim.Native.Nat.{ℕ, ◌+◌, ◌*◌, ◌/◌, ◌%◌, ◌^◌, ◌<◌, ◌≤◌}
use native.Mathlib.Nat.{zero-add}
use native.Mathlib.Omega.{arith}
use lib.Dec.{eqb}
use borrow.Author.Tests.{eqb-true, eqb-false}
use lib.ListN.{length, get_or, drop, length-drop, take-append-drop, get_or-append, get_or-replicate}
use lib.Seq.{take_all, ext_get_or}
use Rattle.octets.specs.Xor.{◌⊕◌}
use Rattle.field.specs.Gf.{lift}
use Rattle.octets.proofs.Xor.{⊕-self, ⊕-shr, ⊕-mod}
use Rattle.octets.specs.Lists.{vec, zero16, part, joined}
use Rattle.field.specs.Vec.{sum, half, lifted}
use Rattle.algebra.specs.Line.{correction_of}
use Rattle.octets.proofs.Tab.{length-tab, vec-tab}
use Rattle.field.proofs.Sum.{sum-ext}
use Rattle.algebra.proofs.Fold.{half-sum, lift-correction}
use Rattle.tree.specs.Tree.{rebuild_of, Keeps16}
use Rattle.paper.specs.Symmetric.{tweak_salt, prg, hash, derive, commit_first, for_leaves, for_commitment}
use Rattle.paper.specs.Commit.{derive_in, leaf_com, tape, x_part, com1_from, hash_ls_com, rseed, lseed, lscom, tape_at, correction, sent_at, com1, path_at, lseed_in, lscom_in, tape_in, correction_in, com1_in}
use Rattle.octets.proofs.Part.{length_part, vec-part, part-joined, joined-ext}
use Rattle.paper.proofs.Symmetric.{length-derive, length-commit, length-prg}
use Rattle.tree.proofs.Lengths.{length-tree-path}
use Rattle.tree.proofs.Places.{leaf-16, leaf-same}
use Rattle.paper.proofs.Trees.{leaves-sum}

keeps : (salt : List ℕ) (e : ℕ) → Keeps16 (derive_in salt e)
unfolding Keeps16 derive_in
keeps salt e j s h = length-derive (tweak_salt salt derive e j) s h

pub length-leaf_com : (salt : List ℕ) (e : ℕ) (s : List ℕ) → length s ≡ 16 → length (leaf_com salt e s) ≡ 32
unfolding leaf_com
length-leaf_com salt e s h = length-commit (tweak_salt salt commit_first e 0) s h

-- the tape starts with the seed
tape-start : (η : ℕ) (salt : List ℕ) (e : ℕ) (s : List ℕ) (b : ℕ) → length s ≡ 16 → b < 16 → vec (x_part (tape η salt e s)) b ≡ vec s b
unfolding x_part tape
tape-start η salt e s b h hb =
    vec-part 0 28 (s ++ prg salt e s (12 + η)) b (omega arith)
    ∙ ap (λ (k : ℕ). vec (s ++ prg salt e s (12 + η)) k) (zero-add b)
    ∙ get_or-append s (prg salt e s (12 + η)) 0 b (omega arith)

-- half a byte of a correction
half-correction : (o N : ℕ) (f : ℕ → ℕ) (x : ℕ)
    → correction_of N f x / 2 ^ o % 2 ^ 4 ≡ correction_of N (λ k. f k / 2 ^ o % 2 ^ 4) (x / 2 ^ o % 2 ^ 4)
half-correction o N f x =
    ap (λ (z : ℕ). z % 2 ^ 4) (⊕-shr o x (sum N f)) ∙ ⊕-mod 4 (x / 2 ^ o) (sum N f / 2 ^ o) ∙ ap (λ (z : ℕ). (x / 2 ^ o % 2 ^ 4) ⊕ z) (half-sum o N f)

-- hm and hx: the master seed has 16 bytes and the solution 28
module _ (mseed salt x : List ℕ) (hm : length mseed ≡ 16) (hx : length x ≡ 28) where
  -- ---- seeds

  length-rseed : (e : ℕ) → e < 17 → length (rseed mseed e) ≡ 16
  unfolding rseed
  length-rseed e he = length_part (16 * e) 16 (prg zero16 0 mseed 272) (omega (arith, length-prg zero16 0 mseed 272 hm))

  length-offset : length (part 0 16 x) ≡ 16
  length-offset = length_part 0 16 x (omega arith)

  pub length-lseed : (e k : ℕ) → e < 17 → k < 256 → length (lseed mseed salt x e k) ≡ 16
  unfolding lseed
  length-lseed e k he hk = leaf-16 (derive_in salt e) (keeps salt e) 7 (rseed mseed e) (part 0 16 x) (length-rseed e he) length-offset k hk

  pub length-lscom : (e k : ℕ) → e < 17 → k < 256 → length (lscom mseed salt x e k) ≡ 32
  unfolding lscom
  length-lscom e k he hk = length-leaf_com salt e (lseed mseed salt x e k) (length-lseed e k he hk)

  pub length-path_at : (e i : ℕ) → e < 17 → length (path_at mseed salt x e i) ≡ 128
  unfolding path_at
  length-path_at e i he =
      length-tree-path (derive_in salt e) (keeps salt e) 7 i (rseed mseed e) (part 0 16 x) (length-rseed e he) length-offset

  -- the leaves of a tree add up to the solution's first 128 bits
  pub lseed-sum : (e b : ℕ) → e < 17 → b < 16 → sum 256 (λ k. vec (lseed mseed salt x e k) b) ≡ vec x b
  unfolding lseed
  lseed-sum e b he hb =
      leaves-sum (derive_in salt e) (keeps salt e) 7 (rseed mseed e) (part 0 16 x) (length-rseed e he) length-offset b hb
      ∙ vec-part 0 16 x b hb ∙ ap (vec x) (zero-add b)

  -- ---- the correction

  module _ (η : ℕ) where
    pub length-correction : (e : ℕ) → length (correction η mseed salt x e) ≡ 28
    unfolding correction
    length-correction e = length-tab 28 _

    pub length-sent : (e : ℕ) → length (sent_at η mseed salt x e) ≡ 12
    unfolding sent_at
    length-sent e = length_part _ 12 (correction η mseed salt x e) (omega (arith, length-correction e))

    pub correction-zero : (e b : ℕ) → e < 17 → b < 16 → vec (correction η mseed salt x e) b ≡ 0
    unfolding correction tape_at
    correction-zero e b he hb =
        vec-tab 28 _ b (omega arith)
        ∙ ap (λ (z : ℕ). vec x b ⊕ z)
        (sum-ext 256 _ _ (λ k hk. tape-start η salt e (lseed mseed salt x e k) b (length-lseed e k he hk) hb) ∙ lseed-sum e b he hb)
        ∙ ⊕-self (vec x b)

    -- the first 128 bits of the correction are zero
    pub correction-first : (e : ℕ) → e < 17 → part 0 16 (correction η mseed salt x e) ≡ zero16
    correction-first e he =
        ext_get_or 0 (part 0 16 (correction η mseed salt x e)) zero16
        (length_part 0 16 (correction η mseed salt x e) (omega (arith, length-correction e)))
        (λ i hi.
        let hi16 : i < 16 = omega (arith, length_part 0 16 (correction η mseed salt x e) (omega (arith, length-correction e))) in
        vec-part 0 16 (correction η mseed salt x e) i hi16
        ∙ ap (vec (correction η mseed salt x e)) (zero-add i)
        ∙ correction-zero e i he hi16
        ∙ sym (get_or-replicate 16 i 0 0 hi16))

    -- so what is sent, with zeros before it, is all of it
    pub correction-padded : (e : ℕ) → e < 17 → zero16 ++ sent_at η mseed salt x e ≡ correction η mseed salt x e
    unfolding sent_at part
    correction-padded e he =
        ap₂ ◌++◌ (sym (correction-first e he)) (take_all 12 (drop 16 (correction η mseed salt x e)) short)
        ∙ take-append-drop 16 (correction η mseed salt x e)
      where
        short : length (drop 16 (correction η mseed salt x e)) ≤ 12
        short = simp length-drop (omega (arith, length-correction e))

    -- the correction in K
    pub lifted-is : (e i : ℕ) → i < 56
        → lifted (correction η mseed salt x e) i ≡ correction_of 256 (λ k. lifted (x_part (tape_at η mseed salt x e k)) i) (lifted x i)
    unfolding lifted half correction
    lifted-is e i hi =
        ap (λ (z : ℕ). lift (z / 2 ^ (4 * (i % 2)) % 2 ^ 4)) (vec-tab 28 _ (i / 2) (omega arith))
        ∙ ap lift (half-correction (4 * (i % 2)) 256 (λ k. vec (x_part (tape_at η mseed salt x e k)) (i / 2)) (vec x (i / 2)))
        ∙ lift-correction 256 (λ k. vec (x_part (tape_at η mseed salt x e k)) (i / 2) / 2 ^ (4 * (i % 2)) % 2 ^ 4) (vec x (i / 2) / 2 ^ (4 * (i % 2)) % 2 ^ 4)

  -- ---- the opening with leaf i e of tree e hidden

  module _ (i : ℕ → ℕ) (hi : (e : ℕ) → i e < 256) where
    abbrev paths : List ℕ
    paths = joined 17 (λ e. path_at mseed salt x e (i e))

    abbrev outs : List ℕ
    outs = joined 17 (λ e. lscom mseed salt x e (i e))

    path-in : (e : ℕ) → e < 17 → part (128 * e) 128 paths ≡ path_at mseed salt x e (i e)
    path-in e he = part-joined 17 128 (λ e. path_at mseed salt x e (i e)) (λ e he. length-path_at e (i e) he) e he

    -- in every tree, every leaf but the hidden one is the signer's
    pub lseed-same : (e k : ℕ) → e < 17 → k ≢ i e → lseed_in salt paths e (i e) k ≡ lseed mseed salt x e k
    unfolding lseed_in lseed path_at
    lseed-same e k he ne =
        ap (λ (p : List ℕ). get_or (rebuild_of (derive_in salt e) 8 0 (i e) p) k []) (path-in e he)
        ∙ leaf-same (derive_in salt e) (keeps salt e) 7 (rseed mseed e) (part 0 16 x) (length-rseed e he) length-offset (i e) (hi e) k ne

    pub lscom-same : (e k : ℕ) → e < 17 → lscom_in salt paths outs e (i e) k ≡ lscom mseed salt x e k
    unfolding lscom_in lscom
    lscom-same e k he = go (eqb k (i e)) refl
      where
        go : (t : Bool) → eqb k (i e) ≡ t
            → cond t (part (32 * e) 32 outs) (leaf_com salt e (lseed_in salt paths e (i e) k)) ≡ leaf_com salt e (lseed mseed salt x e k)
        go true q =
            part-joined 17 32 (λ e. lscom mseed salt x e (i e)) (λ e he. length-lscom e (i e) he (hi e)) e he
            ∙ ap (λ (k : ℕ). leaf_com salt e (lseed mseed salt x e k)) (sym (eqb-true k (i e) q))
        go false q = ap (leaf_com salt e) (lseed-same e k he (eqb-false k (i e) q))

    module _ (η : ℕ) where
      abbrev sent : List ℕ
      sent = joined 17 (sent_at η mseed salt x)

      pub tape-same : (e k : ℕ) → e < 17 → k ≢ i e → tape_in η salt paths e (i e) k ≡ tape_at η mseed salt x e k
      unfolding tape_in tape_at
      tape-same e k he ne = ap (tape η salt e) (lseed-same e k he ne)

      pub correction-same : (e : ℕ) → e < 17 → correction_in sent e ≡ correction η mseed salt x e
      unfolding correction_in
      correction-same e he =
          ap (λ (d : List ℕ). zero16 ++ d) (part-joined 17 12 (sent_at η mseed salt x) (λ e he. length-sent η e) e he) ∙ correction-padded η e he

      pub com1-same : com1_in salt paths outs sent i ≡ com1 η mseed salt x
      unfolding com1_in com1 com1_from hash_ls_com
      com1-same =
          ap (λ (h : List ℕ). hash for_commitment (h ++ sent))
          (joined-ext 17 _ _ (λ e he. ap (hash for_leaves) (joined-ext 256 _ _ (λ k hk. lscom-same e k he))))
