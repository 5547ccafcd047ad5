-- The loop that writes the blocks of an equation one after the other, and the input of the hash that gives its seed. Assumes nothing.
use mathlib.Core.Path.{◌≡◌, sym, ap, ap₂, ◌∙◌}
use mathlib.Core.List.{List, [], ◌∷◌, ◌++◌, append-nil}
use Prim.Native.Nat.{ℕ, ◌+◌, ◌*◌, ◌<◌}
use native.Mathlib.Omega.{arith}
use lib.ListN.{length, take, drop, length-append}
use lib.Seq.{take_at, drop_at}
use Rattle.std.specs.Int.{w16, to_le_bytes}
use Rattle.octets.specs.Lists.{part, joined, bytes_of, zero16}
use Rattle.octets.specs.Place.{place}
use Rattle.octets.proofs.Part.{part-here, part-all, part-skip, length-joined, joined-suc, length-bytes_of}
use Rattle.octets.proofs.Place.{length-place}
use Rattle.octets.proofs.Frame.{part-add, part-grows, part-turn}
use Rattle.aes.specs.Words.{block_of}
use Rattle.aes.specs.declared.Cols.{Cols}
use Rattle.paper.specs.Symmetric.{prg_block, prg}
use Rattle.paper.proofs.Symmetric.{length-prg_block}

module _ (s : List ℕ) (hs : length s ≡ 16) where
  abbrev block : ℕ → List ℕ
  block = prg_block zero16 0 s

  length-blocks : (n : ℕ) → length (joined n block) ≡ n * 16
  length-blocks n = length-joined n 16 block (λ i hi. length-prg_block zero16 0 s i hs)

  pub blocks-turn : (q x : List ℕ) (i : ℕ) {q' : List ℕ} → i < 103 → length q ≡ 1652 → part 0 (16 * i) q ≡ joined i block → x ≡ prg_block zero16 0 s i
      → q' ≡ place (16 * i) x q → part 0 (16 * (i + 1)) q' ≡ joined (i + 1) block
  blocks-turn q x i h l e p k =
      ap (part 0 (16 * (i + 1))) k ∙ part-turn 0 16 i block x q (16 * i) e p (length-prg_block zero16 0 s i hs) (omega arith) (omega arith)

  whole : prg zero16 0 s 1652 ≡ joined 103 block ++ part 0 4 (block 103)
  unfolding prg
  whole =
      ap (part 0 1652) (joined-suc 103 block)
      ∙ part-add 0 1648 4 (joined 103 block ++ block 103)
      ∙ ap₂ ◌++◌ (part-here 1648 (joined 103 block) (block 103) (length-blocks 103)) (part-skip 1648 0 4 (joined 103 block) (block 103) (length-blocks 103))

  pub blocks_end : (q x w : List ℕ) (i : ℕ) {q' : List ℕ} → i ≡ 103 → length q ≡ 1652 → part 0 (16 * i) q ≡ joined i block → x ≡ prg_block zero16 0 s 103
      → w ≡ part 0 4 x → length w ≡ 4 → q' ≡ place 1648 w q → q' ≡ prg zero16 0 s 1652
  blocks_end q x w i h l e p k lw g =
      g ∙ sym (part-all 1652 (place 1648 w q) (length-place 1648 w q ∙ l))
      ∙ part-grows 0 1648 4 (joined 103 block) w q (sym (ap (λ (n : ℕ). part 0 (16 * n) q) h) ∙ e ∙ ap (λ (n : ℕ). joined n block) h) lw (omega arith)
      ∙ ap (λ (v : List ℕ). joined 103 block ++ v) (k ∙ ap (part 0 4) p)
      ∙ sym whole

-- the first four bytes of a block are its first column's
pub first_word : (k : Cols) → bytes_of 4 k.a ≡ part 0 4 (block_of k)
unfolding block_of
first_word k = sym (part-here 4 (bytes_of 4 k.a) _ (length-bytes_of 4 k.a))

-- ---- the hash's input: mseed_eq, and Bits_16 of a number

-- two bytes b behind x
module _ (x m b : List ℕ) (i : ℕ) (e : x ≡ m) (h : length m ≡ 32) (f : b ≡ to_le_bytes w16 i) where
  pub seed-input : take 32 (x ++ (0 ∷ (0 ∷ []))) ++ (b ++ drop 2 (drop 32 (x ++ (0 ∷ (0 ∷ []))))) ≡ m ++ bytes_of 2 i
  unfolding bytes_of
  seed-input =
      ap₂ (λ (u v : List ℕ). u ++ (b ++ drop 2 v)) (take_at x (0 ∷ (0 ∷ [])) 32 (ap length e ∙ h)) (drop_at x (0 ∷ (0 ∷ [])) 32 (ap length e ∙ h))
      ∙ ap (λ (u : List ℕ). x ++ u) (append-nil b)
      ∙ ap₂ ◌++◌ e f

  pub length-input : length (take 32 (x ++ (0 ∷ (0 ∷ []))) ++ (b ++ drop 2 (drop 32 (x ++ (0 ∷ (0 ∷ [])))))) ≡ 34
  unfolding bytes_of
  length-input = ap length seed-input ∙ length-append m (bytes_of 2 i) ∙ ap (λ (n : ℕ). n + 2) h
