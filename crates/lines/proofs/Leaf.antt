-- A leaf's commitment and tape: their lengths, how they are stored, and what they are under the keys of a tree. Assumes nothing.
use mathlib.Core.Path.{◌≡◌, refl, ap, ap₂, ◌∙◌}
use mathlib.Core.List.{List, ◌++◌, append_assoc}
use Prim.Native.Nat.{ℕ, ◌+◌, ◌*◌, ◌<◌}
use native.Mathlib.Omega.{arith}
use lib.ListN.{length, length-append}
use Rattle.octets.specs.Lists.{part, bytes_of}
use Rattle.octets.specs.Place.{place}
use Rattle.octets.proofs.Part.{length_part, length-bytes_of}
use Rattle.octets.proofs.Place.{place-extend, place-whole}
use Rattle.aes.specs.declared.Cols.{Cols}
use Rattle.aes.specs.Words.{block_of}
use Rattle.aes.proofs.Blocks.{length-block_of}
use Rattle.paper.specs.Commit.{leaf_com, tape}
use Rattle.seeds.specs.Expanded.{derive_with, key_at, tree_keys}
use Rattle.seeds.proofs.Routines.{length-derive_with, leaf_com-held, tape-held}
use Rattle.lines.specs.Standing.{com_by, tape_by, leaf_at}

pub length-leaf_at : (leaves : List ℕ) (k : ℕ) → length leaves ≡ 4096 → k < 256 → length (leaf_at leaves k) ≡ 16
unfolding leaf_at
length-leaf_at leaves k h l = length_part (16 * k) 16 leaves (omega arith)

length-key_at : (keys : List ℕ) (k : ℕ) → length keys ≡ 2112 → k < 12 → length (key_at keys k) ≡ 176
unfolding key_at
length-key_at keys k h l = length_part (176 * k) 176 keys (omega arith)

pub length-com_by : (keys s : List ℕ) → length keys ≡ 2112 → length s ≡ 16 → length (com_by keys s) ≡ 32
unfolding com_by
length-com_by keys s h l =
    length-append (derive_with (key_at keys 7) s) (derive_with (key_at keys 8) s)
    ∙ ap₂ ◌+◌ (length-derive_with (key_at keys 7) s (length-key_at keys 7 h (omega arith)) l)
    (length-derive_with (key_at keys 8) s (length-key_at keys 8 h (omega arith)) l)

-- ---- as they are stored

pub com-stored : (a b z : List ℕ) → length a ≡ 16 → length b ≡ 16 → length z ≡ 32 → place 16 b (place 0 a z) ≡ a ++ b
com-stored a b z ha hb hz =
    place-extend 0 a b z 16 (omega arith) ∙ place-whole (a ++ b) z (length-append a b ∙ omega arith)

pub tape-stored : (s a b c d z : List ℕ) → length s ≡ 16 → length a ≡ 16 → length b ≡ 16 → length c ≡ 4 → length d ≡ 4 → length z ≡ 56
    → place 52 d (place 48 c (place 32 b (place 16 a (place 0 s z)))) ≡ s ++ (a ++ (b ++ (c ++ d)))
tape-stored s a b c d z hs ha hb hc hd hz =
    ap (λ (l : List ℕ). place 52 d (place 48 c (place 32 b l))) (place-extend 0 s a z 16 (omega arith))
    ∙ ap (λ (l : List ℕ). place 52 d (place 48 c l)) (place-extend 0 (s ++ a) b z 32 (omega (arith, two)))
    ∙ ap (place 52 d) (place-extend 0 (s ++ a ++ b) c z 48 (omega (arith, three)))
    ∙ place-extend 0 (s ++ a ++ b ++ c) d z 52 (omega (arith, four))
    ∙ place-whole (s ++ a ++ b ++ c ++ d) z (length-append (s ++ a ++ b ++ c) d ∙ omega (arith, four))
    ∙ simp append_assoc
  where
    two : length (s ++ a) ≡ 32
    two = length-append s a ∙ omega arith

    three : length (s ++ a ++ b) ≡ 48
    three = length-append (s ++ a) b ∙ omega (arith, two)

    four : length (s ++ a ++ b ++ c) ≡ 52
    four = length-append (s ++ a ++ b) c ∙ omega (arith, three)

pub half-block : (c : Cols) → bytes_of 4 c.a ++ bytes_of 4 c.b ≡ part 0 8 (block_of c)
unfolding block_of bytes_of part
half-block c = refl

pub com-made : (keys : List ℕ) (s a b : Cols) (z r₁ r₂ : List ℕ) → length z ≡ 32
    → block_of a ≡ derive_with (key_at keys 7) (block_of s) → block_of b ≡ derive_with (key_at keys 8) (block_of s)
    → r₁ ≡ place 0 (block_of a) z → r₂ ≡ place 16 (block_of b) r₁ → r₂ ≡ com_by keys (block_of s)
unfolding com_by
com-made keys s a b z r₁ r₂ hz ea eb e₁ e₂ =
    e₂ ∙ ap (place 16 (block_of b)) e₁ ∙ com-stored (block_of a) (block_of b) z (length-block_of a) (length-block_of b) hz ∙ ap₂ ◌++◌ ea eb

pub tape-made : (keys : List ℕ) (s a b c : Cols) (z r₁ r₂ r₃ r₄ r₅ : List ℕ) → length z ≡ 56
    → block_of a ≡ derive_with (key_at keys 9) (block_of s) → block_of b ≡ derive_with (key_at keys 10) (block_of s)
    → block_of c ≡ derive_with (key_at keys 11) (block_of s)
    → r₁ ≡ place 0 (block_of s) z → r₂ ≡ place 16 (block_of a) r₁ → r₃ ≡ place 32 (block_of b) r₂
    → r₄ ≡ place 48 (bytes_of 4 c.a) r₃ → r₅ ≡ place 52 (bytes_of 4 c.b) r₄ → r₅ ≡ tape_by keys (block_of s)
unfolding tape_by
tape-made keys s a b c z r₁ r₂ r₃ r₄ r₅ hz ea eb ec e₁ e₂ e₃ e₄ e₅ =
    e₅
    ∙ ap (place 52 (bytes_of 4 c.b))
    (e₄ ∙ ap (place 48 (bytes_of 4 c.a)) (e₃ ∙ ap (place 32 (block_of b)) (e₂ ∙ ap (place 16 (block_of a)) e₁)))
    ∙ tape-stored (block_of s) (block_of a) (block_of b) (bytes_of 4 c.a) (bytes_of 4 c.b) z (length-block_of s) (length-block_of a) (length-block_of b)
    (length-bytes_of 4 c.a) (length-bytes_of 4 c.b) hz
    ∙ ap (λ (l : List ℕ). block_of s ++ l) (ap₂ ◌++◌ ea (ap₂ ◌++◌ eb (half-block c ∙ ap (part 0 8) ec)))

-- ---- under the keys of tree e

module _ (salt : List ℕ) (e : ℕ) (keys : List ℕ) (held : keys ≡ tree_keys salt e) (s : List ℕ) where
  pub com-held : com_by keys s ≡ leaf_com salt e s
  unfolding com_by
  com-held = leaf_com-held salt e keys held s

  pub tape-by-held : length s ≡ 16 → tape_by keys s ≡ tape 28 salt e s
  unfolding tape_by
  tape-by-held h = tape-held salt e keys held s h
