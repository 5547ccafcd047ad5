-- The checker's tree is algorithm 12's: its leaves, commitments and tapes, and so its hash and the lines' values. Assumes nothing.
use mathlib.Core.Path.{◌≡◌, sym, ap, ap₂, ◌∙◌}
use mathlib.Core.Bool.{cond}
use mathlib.Core.List.{List, [], ◌++◌}
use Prim.Native.Nat.{ℕ, ◌*◌, ◌<◌}
use native.Mathlib.Omega.{arith}
use lib.Dec.{eqb}
use lib.ListN.{length, get_or}
use Rattle.octets.specs.Lists.{vec, tab, part, zero16, flat}
use Rattle.octets.proofs.Part.{length_part}
use Rattle.octets.proofs.Tab.{tab-ext}
use Rattle.field.specs.Vec.{skip, lifted}
use Rattle.algebra.specs.Line.{value_of}
use Rattle.algebra.specs.Folding.{point, hide}
use Rattle.shake.specs.Shake.{shake128}
use Rattle.tree.specs.Tree.{rebuild_of}
use Rattle.paper.specs.Commit.{derive_in, leaf_com, tape, x_part, u_part, lseed_in, lscom_in, tape_in, correction_in, x_eval, u_eval}
use Rattle.paper.proofs.Alpha.{x_eval-folded, u_eval-folded}
use Rattle.seeds.specs.Expanded.{tree_keys}
use Rattle.ggm.proofs.Held.{rebuilt-held}
use Rattle.folding.specs.Rows.{Folds, x_at, u_at}
use Rattle.folding.proofs.Folds.{folds-ext}
use Rattle.folding.proofs.Values.{folds-x-at, folds-u-at}
use Rattle.lines.specs.declared.Values.{Values}
use Rattle.ggm.specs.Ggm.{derive_by}
use Rattle.lines.specs.Standing.{com_by, tape_by, leaf_at, coms_with, hashed_of, raw_by}
use Rattle.lines.specs.Answers.{Evaluated, ValuesOf}
use Rattle.lines.proofs.Leaf.{com-held, tape-by-held}
use Rattle.lines.proofs.Signer.{hash-standing}

module _ (salt paths outs sents : List ℕ) (e i : ℕ) (keys : List ℕ) (held : keys ≡ tree_keys salt e) (path out d : List ℕ) (hp : length path ≡ 128)
    (hd : length d ≡ 12) (path-from : path ≡ part (128 * e) 128 paths) (out-from : out ≡ part (32 * e) 32 outs) (sent-from : d ≡ part (12 * e) 12 sents) where
  module _ (leaves text h f : List ℕ) (long : length leaves ≡ 4096) (rebuilt : leaves ≡ flat (rebuild_of (derive_by keys) 8 0 i path))
      (lf : length f ≡ 504) (F : Folds f (raw_by keys leaves i) 256)
      (hashed : text ≡ hashed_of (coms_with keys leaves i out)) (hash-is : h ≡ shake128 text 32) where
    leaf-is : (k : ℕ) → k < 256 → leaf_at leaves k ≡ lseed_in salt paths e i k
    unfolding leaf_at lseed_in
    leaf-is k l =
        rebuilt-held salt e keys held i path leaves k (omega arith) rebuilt l
        ∙ ap (λ (p : List ℕ). get_or (rebuild_of (derive_in salt e) 8 0 i p) k []) path-from

    com-is : (k : ℕ) → k < 256 → cond (eqb k i) out (com_by keys (leaf_at leaves k)) ≡ lscom_in salt paths outs e i k
    unfolding lscom_in
    com-is k l =
        ap₂ (λ (a b : List ℕ). cond (eqb k i) a b) out-from
        (com-held salt e keys held (leaf_at leaves k) ∙ ap (leaf_com salt e) (leaf-is k l))

    tape-is : (k : ℕ) → k < 256 → tape_by keys (leaf_at leaves k) ≡ tape_in 28 salt paths e i k
    unfolding tape_in leaf_at
    tape-is k l =
        tape-by-held salt e keys held (leaf_at leaves k) (length_part (16 * k) 16 leaves (omega arith)) ∙ ap (tape 28 salt e) (leaf-is k l)

    folded : Folds f (hide i (λ k. vec (tape_in 28 salt paths e i k))) 256
    folded = folds-ext f (λ k. tape_by keys (leaf_at leaves k)) (tape_in 28 salt paths e i) i 256 tape-is F

    x-at : (q : ℕ) → q < 56 → x_at f d (point i) q ≡ x_eval 28 salt paths sents e i q
    unfolding x_part correction_in
    x-at q hq =
        folds-x-at f (tape_in 28 salt paths e i) i folded d (point i) q lf hd hq
        ∙ ap (λ (s : List ℕ). value_of 256 point (skip i (λ k. lifted (part 0 28 (tape_in 28 salt paths e i k)) q)) (lifted (zero16 ++ s) q) (point i)) sent-from
        ∙ sym (x_eval-folded 28 salt paths sents e i q)

    u-at : (j : ℕ) → j < 28 → u_at f (point i) j ≡ u_eval 28 salt paths sents e i j
    unfolding u_part
    u-at j hj = folds-u-at f (tape_in 28 salt paths e i) i folded (point i) j hj ∙ sym (u_eval-folded 28 salt paths sents e i j)

    pub evaluated : (r : ℕ) (v : Values) → r ≡ point i → ValuesOf h f d r v → Evaluated salt paths outs sents e i v
    evaluated r v er w =
        record {
          hash-is = w.hash-is ∙ hash-is ∙ ap (λ (t : List ℕ). shake128 t 32) hashed ∙ hash-standing _ (lscom_in salt paths outs e i) com-is;
          x-is = w.x-is ∙ ap (λ (r : ℕ). tab 56 (x_at f d r)) er ∙ tab-ext 56 _ _ x-at;
          u-is = w.u-is ∙ ap (λ (r : ℕ). tab 28 (u_at f r)) er ∙ tab-ext 28 _ _ u-at;
        }
