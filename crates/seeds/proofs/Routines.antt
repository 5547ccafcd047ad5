-- The routines of document 001 (algorithms 17 to 20), and what a tree's leaves are made into, by expanded keys. Assumes nothing.
use mathlib.Core.Path.{◌≡◌, sym, ap, ap₂, ◌∙◌}
use mathlib.Core.List.{List, ◌++◌, append-nil}
use Prim.Native.Nat.{ℕ, ◌+◌, ◌-◌, ◌*◌, ◌<◌, ◌≤◌}
use native.Mathlib.Omega.{arith}
use lib.Bits.{bit_xor, xor_shifted}
use lib.Dec.{lit<}
use lib.ListN.{length}
use Rattle.octets.specs.Xor.{◌⊕◌, xor_b}
use Rattle.octets.specs.Lists.{part, joined, bytes_of, zero16}
use Rattle.octets.proofs.Xor.{xor_b-assoc, length-xor_b}
use Rattle.octets.proofs.Part.{part-here, part-skip}
use Rattle.octets.proofs.Frame.{part-add}
use Rattle.aes.specs.Cipher.{cipher, expand_key}
use Rattle.octets.proofs.Laid.{bytes_of-⊕}
use Rattle.aes.proofs.Bounds.{aes128-is, length-cipher}
use Rattle.paper.specs.Symmetric.{selectors, selector, enc, tweak_salt, psi, seed_derive, seed_commit, prg_block, prg, commit_first, commit_second}
use Rattle.paper.specs.Commit.{derive_in, leaf_com, tape}
use Rattle.paper.proofs.Symmetric.{length-psi}
use Rattle.seeds.specs.Expanded.{derive_with, key_at, plain_keys, tree_key, tree_keys}
use Rattle.seeds.proofs.Keys.{key-at-plain, key-at-tree, derive-key, commit-first-key, commit-second-key, expand-key, length-tree_key}

-- ---- under an expanded key

pub derive-with : (k s : List ℕ) → derive_with (expand_key k) s ≡ seed_derive k s
unfolding derive_with seed_derive enc
derive-with k s = ap (λ (l : List ℕ). xor_b l (psi s)) (aes128-is k s)

pub length-derive_with : (w s : List ℕ) → length w ≡ 176 → length s ≡ 16 → length (derive_with w s) ≡ 16
unfolding derive_with
length-derive_with w s h l = length-xor_b 16 (cipher w s) (psi s) (length-cipher w s h) (length-psi s l)

under : (w k s : List ℕ) → w ≡ expand_key k → derive_with w s ≡ seed_derive k s
under w k s e = ap (λ (v : List ℕ). derive_with v s) e ∙ derive-with k s

pub plain-block : (s : List ℕ) (i : ℕ) → i < 104 → derive_with (key_at plain_keys i) s ≡ prg_block zero16 0 s i
unfolding prg_block
plain-block s i h = under (key_at plain_keys i) _ s (key-at-plain i h)

-- ---- SeedCommit: the two keys of a commitment are neighbours, since 0 + 4 e is even

next : (e : ℕ) → (4 * e) ⊕ 1 ≡ 4 * e + 1
unfolding ◌⊕◌
next e =
    let even : 4 * e ≡ 2 * e * 2 = omega arith in
    ap (λ (n : ℕ). bit_xor n 1) even ∙ xor_shifted (2 * e) 1 1 (lit< tt) ∙ ap (λ (n : ℕ). n + 1) (sym even)

pub commit-second : (salt : List ℕ) (e : ℕ) → xor_b (tweak_salt salt commit_first e 0) (bytes_of 16 1) ≡ tweak_salt salt commit_second e 0
unfolding tweak_salt selector selectors
commit-second salt e =
    xor_b-assoc salt (bytes_of 16 (0 + 4 * e + 256 * 0)) (bytes_of 16 1)
    ∙ ap (xor_b salt)
    (sym (bytes_of-⊕ 16 (0 + 4 * e + 256 * 0) 1) ∙ ap (bytes_of 16) (ap (λ (n : ℕ). n ⊕ 1) first ∙ next e ∙ second))
  where
    first : 0 + 4 * e + 256 * 0 ≡ 4 * e
    first = omega arith

    second : 4 * e + 1 ≡ 1 + 4 * e + 256 * 0
    second = omega arith

-- ---- under the keys of tree e

module _ (salt : List ℕ) (e : ℕ) (s : List ℕ) where
  pub derive_in-key : (j : ℕ) → 1 ≤ j → j < 8 → derive_in salt e j s ≡ derive_with (tree_key salt e (j - 1)) s
  unfolding derive_in
  derive_in-key j h l = sym (under (tree_key salt e (j - 1)) _ s (derive-key salt e j h l))

  pub leaf_com-keys : leaf_com salt e s ≡ derive_with (tree_key salt e 7) s ++ derive_with (tree_key salt e 8) s
  unfolding leaf_com seed_commit
  leaf_com-keys =
      ap₂ ◌++◌ (sym (under (tree_key salt e 7) _ s (commit-first-key salt e)))
      (ap (λ (k : List ℕ). seed_derive k s) (commit-second salt e) ∙ sym (under (tree_key salt e 8) _ s (commit-second-key salt e)))

  block-key : (i : ℕ) → i < 3 → prg_block salt e s i ≡ derive_with (tree_key salt e (9 + i)) s
  unfolding prg_block
  block-key i h = sym (under (tree_key salt e (9 + i)) _ s (expand-key salt e i h))

  pub tape-keys : tape 28 salt e s ≡ s ++ part 0 40 (derive_with (tree_key salt e 9) s ++ (derive_with (tree_key salt e 10) s ++ derive_with (tree_key salt e 11) s))
  unfolding tape prg joined
  tape-keys =
      ap (λ (l : List ℕ). s ++ part 0 40 l)
      (ap₂ ◌++◌ (block-key 0 (lit< tt)) (ap₂ ◌++◌ (block-key 1 (lit< tt)) (append-nil (prg_block salt e s 2) ∙ block-key 2 (lit< tt))))

-- ---- the same, of a buffer that holds them

forty : (a b c : List ℕ) → length a ≡ 16 → length b ≡ 16 → part 0 40 (a ++ (b ++ c)) ≡ a ++ (b ++ part 0 8 c)
forty a b c p q =
    part-add 0 16 24 (a ++ (b ++ c))
    ∙ ap₂ ◌++◌ (part-here 16 a (b ++ c) p)
    (part-skip 16 0 24 a (b ++ c) p ∙ part-add 0 16 8 (b ++ c) ∙ ap₂ ◌++◌ (part-here 16 b c q) (part-skip 16 0 8 b c q))

module _ (salt : List ℕ) (e : ℕ) (keys : List ℕ) (held : keys ≡ tree_keys salt e) (s : List ℕ) where
  by_key : (k : ℕ) → k < 12 → derive_with (key_at keys k) s ≡ derive_with (tree_key salt e k) s
  by_key k h = ap (λ (w : List ℕ). derive_with w s) (ap (λ (l : List ℕ). key_at l k) held ∙ key-at-tree salt e k h)

  pub derive_in-held : (j : ℕ) → 1 ≤ j → j < 8 → derive_with (key_at keys (j - 1)) s ≡ derive_in salt e j s
  derive_in-held j h l = by_key (j - 1) (omega arith) ∙ sym (derive_in-key salt e s j h l)

  pub leaf_com-held : derive_with (key_at keys 7) s ++ derive_with (key_at keys 8) s ≡ leaf_com salt e s
  leaf_com-held = ap₂ ◌++◌ (by_key 7 (lit< tt)) (by_key 8 (lit< tt)) ∙ sym (leaf_com-keys salt e s)

  pub tape-held : length s ≡ 16 → s ++ (derive_with (key_at keys 9) s ++ (derive_with (key_at keys 10) s ++ part 0 8 (derive_with (key_at keys 11) s))) ≡ tape 28 salt e s
  tape-held h =
      let w = tree_key salt e in
      ap (λ (l : List ℕ). s ++ l)
      (ap₂ ◌++◌ (by_key 9 (lit< tt)) (ap₂ ◌++◌ (by_key 10 (lit< tt)) (ap (part 0 8) (by_key 11 (lit< tt))))
      ∙ sym (forty (derive_with (w 9) s) (derive_with (w 10) s) (derive_with (w 11) s) (length-derive_with (w 9) s (length-tree_key salt e 9) h) (length-derive_with (w 10) s (length-tree_key salt e 10) h)))
      ∙ sym (tape-keys salt e s)
