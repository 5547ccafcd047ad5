-- The signer's tree is algorithm 10's: its leaves, commitments and tapes, and so its hash, its lines and its opening. Assumes nothing.
use mathlib.Core.Path.{◌≡◌, refl, ap, ap₂, ◌∙◌}
use mathlib.Core.List.{List, []}
use Prim.Native.Nat.{ℕ, ◌*◌, ◌<◌}
use native.Mathlib.Omega.{arith}
use lib.ListN.{length, get_or}
use Rattle.octets.specs.Lists.{vec, part, flat}
use Rattle.octets.proofs.Part.{length_part, joined-ext}
use Rattle.algebra.specs.Folding.{hide}
use Rattle.shake.specs.Shake.{shake128}
use Rattle.tree.specs.Tree.{tree_of, tree_path_of}
use Rattle.paper.specs.Symmetric.{hash, for_leaves}
use Rattle.paper.specs.Commit.{derive_in, leaf_com, tape, x_part, u_part, hash_ls_com, rseed, lseed, lscom, path_at, tape_at, correction, sent_at}
use Rattle.seeds.specs.Expanded.{tree_keys}
use Rattle.seeds.proofs.Hash.{hash-flat}
use Rattle.ggm.specs.Ggm.{derive_by}
use Rattle.ggm.proofs.Held.{tree-held, tree-path-held, leaf-held}
use Rattle.folding.specs.Rows.{Folds}
use Rattle.folding.proofs.Folds.{folds-ext}
use Rattle.folding.proofs.Values.{folds-x0, folds-u0, folds-u1, folds-sent}
use Rattle.lines.specs.declared.Lines.{Lines}
use Rattle.lines.specs.Standing.{com_by, tape_by, leaf_at, coms_by, hashed_of, raw_by}
use Rattle.lines.specs.Answers.{Committed, Revealed, LinesOf}
use Rattle.lines.proofs.Leaf.{com-held, tape-by-held}

-- the commitments' hash
pub hash-standing : (coms lscoms : ℕ → List ℕ) → ((k : ℕ) → k < 256 → coms k ≡ lscoms k) → shake128 (hashed_of coms) 32 ≡ hash_ls_com lscoms
unfolding hashed_of hash_ls_com
hash-standing coms lscoms same = hash-flat for_leaves _ (hashed_of coms) refl ∙ ap (hash for_leaves) (joined-ext 256 coms lscoms same)

-- δ is the offset
module _ (mseed salt x : List ℕ) (e : ℕ) (keys : List ℕ) (held : keys ≡ tree_keys salt e) (root δ : List ℕ) (hr : length root ≡ 16) (hx : length x ≡ 28)
    (from : root ≡ rseed mseed e) (offset : δ ≡ part 0 16 x) where
  -- algorithm 10
  module _ (leaves text h f : List ℕ) (long : length leaves ≡ 4096) (grown : leaves ≡ flat (tree_of (derive_by keys) 7 root δ))
      (lf : length f ≡ 504) (F : Folds f (raw_by keys leaves 256) 256) (hashed : text ≡ hashed_of (coms_by keys leaves)) (hash-is : h ≡ shake128 text 32) where
    leaf-is : (k : ℕ) → k < 256 → leaf_at leaves k ≡ lseed mseed salt x e k
    unfolding leaf_at lseed
    leaf-is k l =
        leaf-held salt e keys held root δ leaves k hr (ap length offset ∙ length_part 0 16 x (omega arith)) grown l
        ∙ ap₂ (λ (r δ : List ℕ). get_or (tree_of (derive_in salt e) 7 r δ) k []) from offset

    com-is : (k : ℕ) → k < 256 → com_by keys (leaf_at leaves k) ≡ lscom mseed salt x e k
    unfolding lscom
    com-is k l = com-held salt e keys held (leaf_at leaves k) ∙ ap (leaf_com salt e) (leaf-is k l)

    tape-is : (k : ℕ) → k < 256 → tape_by keys (leaf_at leaves k) ≡ tape_at 28 mseed salt x e k
    unfolding tape_at leaf_at
    tape-is k l =
        tape-by-held salt e keys held (leaf_at leaves k) (length_part (16 * k) 16 leaves (omega arith)) ∙ ap (tape 28 salt e) (leaf-is k l)

    folded : Folds f (hide 256 (λ k. vec (tape_at 28 mseed salt x e k))) 256
    folded = folds-ext f (λ k. tape_by keys (leaf_at leaves k)) (tape_at 28 mseed salt x e) 256 256 tape-is F

    pub committed : (l : Lines) → LinesOf h f x l → Committed mseed salt x e l
    unfolding x_part u_part sent_at correction
    committed l L =
        record {
          hash-is = L.hash-is ∙ hash-is ∙ ap (λ (t : List ℕ). shake128 t 32) hashed ∙ hash-standing _ (lscom mseed salt x e) com-is;
          x0-is = L.x0-is ∙ folds-x0 f (tape_at 28 mseed salt x e) folded;
          u0-is = L.u0-is ∙ folds-u0 f (tape_at 28 mseed salt x e) folded;
          u1-is = L.u1-is ∙ folds-u1 f (tape_at 28 mseed salt x e) folded lf;
          correction-is = L.correction-is ∙ folds-sent f (tape_at 28 mseed salt x e) folded x lf hx;
        }

  -- algorithm 11
  pub revealed : (i : ℕ) (path seed out : List ℕ) → path ≡ flat (tree_path_of (derive_by keys) 7 i root δ)
      → seed ≡ get_or (tree_of (derive_by keys) 7 root δ) i [] → out ≡ com_by keys seed → Revealed mseed salt x e i path out
  unfolding path_at lscom lseed
  revealed i path seed out p s o =
      record {
        path-is =
            p ∙ ap flat (tree-path-held salt e keys held i root δ)
            ∙ ap₂ (λ (r δ : List ℕ). flat (tree_path_of (derive_in salt e) 7 i r δ)) from offset;
        out-is =
            o ∙ com-held salt e keys held seed
            ∙ ap (leaf_com salt e)
            (s ∙ ap (λ (t : List (List ℕ)). get_or t i []) (tree-held salt e keys held root δ)
            ∙ ap₂ (λ (r δ : List ℕ). get_or (tree_of (derive_in salt e) 7 r δ) i []) from offset);
      }
