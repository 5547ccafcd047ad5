-- Document 001, section 2.5.2 (algorithms 10 to 12) over the trees of 2.5.3: 17 trees of 256 leaves. η is the number of bytes of a mask.
-- Algorithm 13 is in the algebra, beside the proof that it gives the sums below. Definitions only.
use Rattle.std.specs.Prelude.{List, [], ◌++◌, cond, ℕ, ◌+◌, ◌*◌, eqb, get_or}
use Rattle.octets.specs.Xor.{◌⊕◌}
use Rattle.octets.specs.Lists.{vec, tab, part, joined, flat, zero16}
use Rattle.field.specs.Gf.{◌⊗◌}
use Rattle.field.specs.Vec.{sum, skip, lifted}
use Rattle.algebra.specs.Folding.{point}
use Rattle.algebra.specs.Line.{Shares, constant_of, correction_of}
use Rattle.tree.specs.Tree.{tree_of, tree_path_of, rebuild_of}
use Rattle.paper.specs.Symmetric.{tweak_salt, seed_derive, seed_commit, prg, hash, commit_first, derive, for_leaves, for_commitment}

-- ---- what signer and checker do alike

-- SeedDerive in tree e, at layer j (algorithms 14 and 16)
unfoldable pub derive_in : List ℕ → ℕ → ℕ → List ℕ → List ℕ
derive_in salt e j seed = seed_derive (tweak_salt salt derive e j) seed

-- ls_com of a leaf of tree e: lines 5 and 7 of algorithm 10, 4 and 7 of 12
unfoldable pub leaf_com : List ℕ → ℕ → List ℕ → List ℕ
leaf_com salt e seed = seed_commit (tweak_salt salt commit_first e 0) seed

-- lseed, followed by exp: lines 8 and 9 of both
unfoldable pub tape : ℕ → List ℕ → ℕ → List ℕ → List ℕ
tape η salt e seed = seed ++ prg salt e seed (12 + η)

-- its two parts: the share of x and the share of u
unfoldable pub x_part : List ℕ → List ℕ
x_part t = part 0 28 t

unfoldable pub u_part : ℕ → List ℕ → List ℕ
u_part η t = part 28 η t

-- hash_ls_com[e], of the commitments of the leaves of tree e
unfoldable pub hash_ls_com : (ℕ → List ℕ) → List ℕ
hash_ls_com ls_com = hash for_leaves (joined 256 ls_com)

-- com_1, of the trees' hashes and the corrections
unfoldable pub com1_from : (ℕ → List ℕ) → List ℕ → List ℕ
com1_from hashes sent = hash for_commitment (joined 17 hashes ++ sent)

-- ---- algorithm 10, BLC.Commit

-- line 1
unfoldable pub rseed : List ℕ → ℕ → List ℕ
rseed mseed e = part (16 * e) 16 (prg zero16 0 mseed 272)

module _ (mseed salt x : List ℕ) where
  -- lines 2 and 4: the offset is FirstBits of x
  unfoldable pub lseed : ℕ → ℕ → List ℕ
  lseed e k = get_or (tree_of (derive_in salt e) 7 (rseed mseed e) (part 0 16 x)) k []

  unfoldable pub lscom : ℕ → ℕ → List ℕ
  lscom e k = leaf_com salt e (lseed e k)

  -- algorithm 11, line 3: GGMTree.Open with leaf i hidden
  unfoldable pub path_at : ℕ → ℕ → List ℕ
  path_at e i = flat (tree_path_of (derive_in salt e) 7 i (rseed mseed e) (part 0 16 x))

module _ (η : ℕ) (mseed salt x : List ℕ) where
  unfoldable pub tape_at : ℕ → ℕ → List ℕ
  tape_at e k = tape η salt e (lseed mseed salt x e k)

  -- the shares of repetition e
  abbrev pub shares_at : ℕ → Shares
  shares_at e = record { x = lifted x; X = λ k. lifted (x_part (tape_at e k)); U = λ k. vec (u_part η (tape_at e k)) }

  -- lines 11 to 13
  abbrev pub u0_at : ℕ → ℕ → ℕ
  u0_at e j = constant_of 256 point (λ k. (shares_at e).U k j)

  abbrev pub u1_at : ℕ → ℕ → ℕ
  u1_at e j = sum 256 (λ k. (shares_at e).U k j)

  abbrev pub x0_at : ℕ → ℕ → ℕ
  x0_at e i = constant_of 256 point (λ k. (shares_at e).X k i)

  -- line 14: the correction, in bytes; line 15: NextBits of it, which is sent
  unfoldable pub correction : ℕ → List ℕ
  correction e = tab 28 (λ b. correction_of 256 (λ k. vec (x_part (tape_at e k)) b) (vec x b))

  unfoldable pub sent_at : ℕ → List ℕ
  sent_at e = part 16 12 (correction e)

  -- line 16
  unfoldable pub com1 : List ℕ
  com1 = com1_from (λ e. hash_ls_com (lscom mseed salt x e)) (joined 17 sent_at)

  -- algorithm 11, BLC.Open, with leaf i e of tree e hidden
  unfoldable pub opening : (ℕ → ℕ) → List ℕ
  opening i = joined 17 (λ e. path_at mseed salt x e (i e)) ++ joined 17 (λ e. lscom mseed salt x e (i e)) ++ joined 17 sent_at

-- ---- algorithm 12, BLC.Eval, from an opening's three parts, with leaf i of tree e hidden

-- line 3: GGMTree.PartiallyExpand
unfoldable pub lseed_in : List ℕ → List ℕ → ℕ → ℕ → ℕ → List ℕ
lseed_in salt paths e i k = get_or (rebuild_of (derive_in salt e) 8 0 i (part (128 * e) 128 paths)) k []

-- lines 7 and 10
unfoldable pub lscom_in : List ℕ → List ℕ → List ℕ → ℕ → ℕ → ℕ → List ℕ
lscom_in salt paths outs e i k = cond (eqb k i) (part (32 * e) 32 outs) (leaf_com salt e (lseed_in salt paths e i k))

-- lines 8 and 9
unfoldable pub tape_in : ℕ → List ℕ → List ℕ → ℕ → ℕ → ℕ → List ℕ
tape_in η salt paths e i k = tape η salt e (lseed_in salt paths e i k)

-- line 13: PadLeft of what was sent
unfoldable pub correction_in : List ℕ → ℕ → List ℕ
correction_in sent e = zero16 ++ part (12 * e) 12 sent

-- lines 12, 14 and 15: the values at the point of the hidden leaf
module _ (η : ℕ) (salt paths sent : List ℕ) (e i : ℕ) where
  unfoldable pub x_eval : ℕ → ℕ
  x_eval q = (lifted (correction_in sent e) q ⊗ point i) ⊕ sum 256 (skip i (λ k. lifted (x_part (tape_in η salt paths e i k)) q ⊗ (point i ⊕ point k)))

  unfoldable pub u_eval : ℕ → ℕ
  u_eval j = sum 256 (skip i (λ k. vec (u_part η (tape_in η salt paths e i k)) j ⊗ (point i ⊕ point k)))

-- line 18
unfoldable pub com1_in : List ℕ → List ℕ → List ℕ → List ℕ → (ℕ → ℕ) → List ℕ
com1_in salt paths outs sent i = com1_from (λ e. hash_ls_com (lscom_in salt paths outs e (i e))) sent
