-- The laws of the workspace in the form that the code leaves it: parts of it were lent and came back. Assumes nothing.
use mathlib.Core.Path.{◌≡◌, refl, sym, ap, subst, ◌∙◌}
use mathlib.Core.Bool.{Bool}
use mathlib.Core.List.{List, [], ◌∷◌}
use Prim.Native.Nat.{ℕ, ◌+◌, ◌*◌, ◌<◌, ◌≤◌}
use native.Mathlib.Omega.{arith}
use lib.ListN.{length}
use Rattle.octets.specs.Xor.{◌⊕◌}
use Rattle.octets.specs.Lists.{vec, tab, part, alike}
use Rattle.octets.specs.Place.{place}
use Rattle.octets.proofs.Part.{length_part}
use Rattle.octets.proofs.Place.{length-place}
use Rattle.octets.proofs.Frame.{part-part}
use Rattle.algebra.specs.Folding.{point}
use Rattle.algebra.specs.Line.{equation_in, z_at}
use Rattle.paper.specs.Symmetric.{hash, for_leaves, for_commitment, for_alphas}
use Rattle.paper.proofs.Symmetric.{length-hash}
use Rattle.paper.specs.Keys.{rows, mseed_eq_of}
use Rattle.paper.specs.Commit.{hash_ls_com, lscom_in, x_eval, u_eval, com1_in, com1_from}
use Rattle.paper.specs.Alpha.{r3, com2_from}
use Rattle.paper.specs.Scheme.{sig_salt, sig_com1, sig_com2, sig_alpha1, sig_paths, sig_outs, sig_sent}
use Rattle.seeds.specs.Expanded.{plain_keys}
use Rattle.equations.specs.Lanes.{lane, Masks}
use Rattle.equations.specs.Put.{Put}
use Rattle.workspace.specs.Map.{at_vectors, at_tree, at_com1, at_hashes, at_sent, at_alpha0, at_alpha1}
use Rattle.workspace.proofs.Lent.{Lent, slice, slice_is}
use Rattle.checker.specs.State.{rest_of, Placed, Evaluated, EvaluatedIn, Vectors, Recomputed, com1_of, com2_of}
use Rattle.checker.proofs.Evaluating.{length-rest_of, evaluated-turn, evaluated-apart, evaluated-behind, committed-are}
use Rattle.checker.proofs.Recomputing.{recomputed-turn, keys-apart, vectors-in, keys_in, recomputed-none, hashed-are}

-- ---- a repetition evaluated

length-hash_ls_com : (f : ℕ → List ℕ) → length (hash_ls_com f) ≡ 32
unfolding hash_ls_com
length-hash_ls_com f = length-hash for_leaves _

-- the tree's room p came back as t, and the vectors q as v
module _ (w p t w1 q v w2 : List ℕ) (hw : length w ≡ 65536) (f : Lent at_tree 12289 w p t w1) (g : Lent at_vectors 10944 w1 q v w2) where
  pub evaluated-one : (e : ℕ) (h s x : List ℕ) (r : ℕ) (w' : List ℕ) → e < 17
      → w' ≡ place (at_alpha0 + 28 * e) s (place (at_hashes + 32 * e) h w2)
      → Placed q e x r v
      → length h ≡ 32
      → length s ≡ 28
      → (salt paths outs sents a1 : List ℕ) (i : ℕ → ℕ)
      → x ≡ tab 56 (x_eval 28 salt paths sents e (i e))
      → r ≡ point (i e)
      → h ≡ hash_ls_com (lscom_in salt paths outs e (i e))
      → s ≡ rest_of (tab 28 (u_eval 28 salt paths sents e (i e))) (part (28 * e) 28 a1) (point (i e))
      → Evaluated salt paths outs sents a1 i e w
      → Evaluated salt paths outs sents a1 i (e + 1) w'
  evaluated-one e h s x r w' he kept put lh ls salt paths outs sents a1 i ex er eh es c =
      subst (Evaluated salt paths outs sents a1 i (e + 1))
      (sym
      (kept
      ∙ ap (λ (z : List ℕ). place (at_alpha0 + 28 * e) s (place (at_hashes + 32 * e) h z)) (g.after ∙ ap (place at_vectors v) f.after)))
      (evaluated-turn e w t v h s hw he f.size g.size lh ls salt paths outs sents a1 x i r
      (subst (λ (z : List ℕ). Placed z e x r v) (g.was ∙ ap (part at_vectors 10944) f.after) put) ex er c eh es)

  -- the same, with salt and hidden leaf known by what they equal
  pub evaluated-code : (e : ℕ) (h u y x : List ℕ) (r : ℕ) (w' : List ℕ) → e < 17
      → w' ≡ place (at_alpha0 + 28 * e) (rest_of u y r) (place (at_hashes + 32 * e) h w2)
      → Placed q e x r v
      → (salt paths outs sents a1 : List ℕ) (i : ℕ → ℕ) (salt' : List ℕ) (j : ℕ)
      → salt' ≡ salt
      → i e ≡ j
      → y ≡ part (28 * e) 28 a1
      → r ≡ point j
      → x ≡ tab 56 (x_eval 28 salt' paths sents e j)
      → h ≡ hash_ls_com (lscom_in salt' paths outs e j)
      → u ≡ tab 28 (u_eval 28 salt' paths sents e j)
      → Evaluated salt paths outs sents a1 i e w
      → Evaluated salt paths outs sents a1 i (e + 1) w'
  evaluated-code e h u y x r w' he kept put salt paths outs sents a1 i salt' j qs qi qy qr qx qh qu c =
      evaluated-one e h (rest_of u y r) x r w' he kept put (ap length qh ∙ length-hash_ls_com _) (length-rest_of u y r) salt paths outs sents a1 i (cc) (cc) (cc) (cc) c

-- ---- what the signature has of repetition e

module _ (sig : List ℕ) (e : ℕ) (hs : length sig ≡ 3484) (he : e < 17) where
  -- n bytes of the m that stand from o on
  in-part : (o m n : ℕ) → n * e + n ≤ m → o + m ≤ 3484 → slice (o + n * e) n sig ≡ part (n * e) n (part o m sig)
  in-part o m n h k = slice_is (o + n * e) n sig ∙ sym (part-part o m (n * e) n sig h (omega arith))

  pub path-is : slice (556 + 128 * e) 128 sig ≡ part (128 * e) 128 (sig_paths r3 sig)
  path-is = in-part 556 2176 128 (omega arith) (omega arith)

  pub out-is : slice (2732 + 32 * e) 32 sig ≡ part (32 * e) 32 (sig_outs r3 sig)
  out-is = in-part 2732 544 32 (omega arith) (omega arith)

  pub sent_is : slice (3276 + 12 * e) 12 sig ≡ part (12 * e) 12 (sig_sent r3 sig)
  sent_is = in-part 3276 204 12 (omega arith) (omega arith)

  pub alpha1-is : slice (80 + 28 * e) 28 sig ≡ part (28 * e) 28 (sig_alpha1 r3 sig)
  alpha1-is = in-part 80 476 28 (omega arith) (omega arith)

-- ---- com_1

module _ (sig : List ℕ) (i : ℕ → ℕ) (w : List ℕ) (hs : length sig ≡ 3484) (hw : length w ≡ 65536) (c : EvaluatedIn sig i 17 w) where
  len-sents : length (sig_sent r3 sig) ≡ 204
  len-sents = length_part 3276 204 sig (omega arith)

  sent-holds : EvaluatedIn sig i 17 (place at_sent (sig_sent r3 sig) w)
  sent-holds =
      evaluated-apart (sig_salt r3 sig) (sig_paths r3 sig) (sig_outs r3 sig) (sig_sent r3 sig) (sig_alpha1 r3 sig) i w hw c at_sent (sig_sent r3 sig) (omega arith) (omega (arith, len-sents))

  pub evaluate-holds : (w2 w3 : List ℕ) (s : ℕ) → w2 ≡ place at_sent (sig_sent r3 sig) w → w3 ≡ place at_com1 (s ∷ []) w2 → EvaluatedIn sig i 17 w3
  evaluate-holds w2 w3 s p q =
      subst (EvaluatedIn sig i 17) (sym (q ∙ ap (place at_com1 (s ∷ [])) p))
      (evaluated-behind (sig_salt r3 sig) (sig_paths r3 sig) (sig_outs r3 sig) (sig_sent r3 sig) (sig_alpha1 r3 sig) i (place at_sent (sig_sent r3 sig) w)
      (length-place at_sent (sig_sent r3 sig) w ∙ hw) sent-holds at_com1 (s ∷ []) (omega arith) (omega arith))

  pub evaluate-same : (w2 a : List ℕ) (r : Bool) → w2 ≡ place at_sent (sig_sent r3 sig) w → a ≡ hash for_commitment (part at_hashes 748 w2) → r ≡ alike a (sig_com1 r3 sig)
      → r ≡ alike (com1_of sig i) (sig_com1 r3 sig)
  unfolding com1_in com1_from
  evaluate-same w2 a r p q er =
      er
      ∙ ap (λ (l : List ℕ). alike l (sig_com1 r3 sig))
      (q
      ∙ ap (λ (l : List ℕ). hash for_commitment (part at_hashes 748 l)) p
      ∙ ap (hash for_commitment) (committed-are (sig_salt r3 sig) (sig_paths r3 sig) (sig_outs r3 sig) (sig_sent r3 sig) (sig_alpha1 r3 sig) i w hw c len-sents))

-- ---- an equation: α_0, p, came back as y

module _ (w p y w' : List ℕ) (hw : length w ≡ 65536) (f : Lent at_alpha0 476 w p y w') where
  pub recomputed-keys : part 0 18304 w ≡ plain_keys → part 0 18304 w' ≡ plain_keys
  recomputed-keys q = ap (part 0 18304) f.after ∙ keys-apart w y hw ∙ q

  -- the equation q, worked on the vectors s
  pub recomputed-one : (pk q s z : List ℕ) (i : ℕ) → i < 28 → q ≡ rows (mseed_eq_of pk) i → s ≡ part at_vectors 10944 w
      → ((v : ℕ → ℕ → ℕ) → Masks s v → z ≡ tab 24 (λ l. z_at 56 (equation_in 56 q 0 (vec pk (32 + i))) (λ k. v k l) (v 56 l)))
      → Put p 17 (λ e. 28 * e + i) (λ e. vec p (28 * e + i) ⊕ vec z e) y
      → (x : ℕ → ℕ → ℕ) (r : ℕ → ℕ) (rest v : ℕ → ℕ → ℕ)
      → Vectors x r v
      → Recomputed pk x r rest v i w
      → Recomputed pk x r rest v (i + 1) w'
  recomputed-one pk q s z i hi eq es ez put x r rest v lanes c =
      subst (Recomputed pk x r rest v (i + 1)) (sym f.after)
      (recomputed-turn pk q z i x r v (vec pk (32 + i)) hi eq refl lanes (ez v (subst (λ (t : List ℕ). Masks t v) (sym es) c.masks)) w y rest hw f.size
      (subst (λ (t : List ℕ). Put t 17 (λ e. 28 * e + i) (λ e. vec t (28 * e + i) ⊕ vec z e) y) f.was put) c)

-- ---- com_2: the keys' room p came back as k, and the vectors q as y

module _ (w p k w1 q y w2 : List ℕ) (hw : length w ≡ 65536) (f : Lent 0 18304 w p k w1) (g : Lent at_vectors 10944 w1 q y w2) where
  both : w2 ≡ place at_vectors y (place 0 k w)
  both = g.after ∙ ap (place at_vectors y) f.after

  pub keys-stand : k ≡ plain_keys → part 0 18304 w2 ≡ plain_keys
  keys-stand e = ap (part 0 18304) both ∙ keys_in w k y hw f.size g.size ∙ e

  module _ (pk sig : List ℕ) (i : ℕ → ℕ) (hs : length sig ≡ 3484) (c : EvaluatedIn sig i 17 w) (masks : Masks y (lane q)) where
    pub recompute-same : (u w4 b : List ℕ) (r : Bool) → length u ≡ 65536
        → ((x : ℕ → ℕ → ℕ) (p : ℕ → ℕ) (rest v : ℕ → ℕ → ℕ) → Vectors x p v → Recomputed pk x p rest v 0 w2 → Recomputed pk x p rest v 28 u)
        → w4 ≡ place at_alpha1 (sig_alpha1 r3 sig) u
        → b ≡ hash for_alphas (part at_alpha0 952 w4)
        → r ≡ alike b (sig_com2 r3 sig)
        → r ≡ alike (com2_of pk sig i) (sig_com2 r3 sig)
    unfolding com2_from
    recompute-same u w4 b r hu all q4 qb qr =
        qr
        ∙ ap (λ (l : List ℕ). alike l (sig_com2 r3 sig))
        (qb
        ∙ ap (λ (l : List ℕ). hash for_alphas (part at_alpha0 952 l)) q4
        ∙ ap (hash for_alphas)
        (hashed-are pk (sig_com1 r3 sig) (sig_salt r3 sig) (sig_paths r3 sig) (sig_sent r3 sig) (sig_alpha1 r3 sig) i _ u hu
        (all _ _ _ _
        (vectors-in (sig_salt r3 sig) (sig_paths r3 sig) (sig_outs r3 sig) (sig_sent r3 sig) (sig_alpha1 r3 sig) i w k hw f.size c)
        (subst (Recomputed pk _ _ _ _ 0) (sym both)
        (recomputed-none (sig_salt r3 sig) (sig_paths r3 sig) (sig_outs r3 sig) (sig_sent r3 sig) (sig_alpha1 r3 sig) i w k y hw f.size g.size c pk
        (subst (λ (z : List ℕ). Masks y (lane z)) (g.was ∙ ap (part at_vectors 10944) f.after) masks))))
        (length_part 80 476 sig (omega arith))))
