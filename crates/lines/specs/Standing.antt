-- What is made of the seeds of a tree's 256 leaves, 4096 bytes: their commitments, 32 bytes each, what Hash_6 is given, and their tapes
-- (document 001, section 2.5.2, algorithm 10, lines 4 to 10). Definitions only.
use Rattle.std.specs.Prelude.{cond, List, ◌∷◌, ◌++◌, ℕ, ◌*◌, eqb}
use Rattle.octets.specs.Lists.{vec, part, joined}
use Rattle.algebra.specs.Folding.{hide}
use Rattle.paper.specs.Symmetric.{selector, for_leaves}
use Rattle.seeds.specs.Expanded.{derive_with, key_at}

-- SeedCommit of a leaf's seed, under the keys of its tree
unfoldable pub com_by : List ℕ → List ℕ → List ℕ
com_by keys s = derive_with (key_at keys 7) s ++ derive_with (key_at keys 8) s

-- its tape: the seed, followed by 40 bytes of PRG
unfoldable pub tape_by : List ℕ → List ℕ → List ℕ
tape_by keys s = s ++ (derive_with (key_at keys 9) s ++ (derive_with (key_at keys 10) s ++ part 0 8 (derive_with (key_at keys 11) s)))

-- the seed of leaf k
unfoldable pub leaf_at : List ℕ → ℕ → List ℕ
leaf_at leaves k = part (16 * k) 16 leaves

-- the commitments of leaves; and with another in the place of the hidden leaf's
abbrev pub coms_by : List ℕ → List ℕ → ℕ → List ℕ
coms_by keys leaves = λ k. com_by keys (leaf_at leaves k)

abbrev pub coms_with : List ℕ → List ℕ → ℕ → List ℕ → ℕ → List ℕ
coms_with keys leaves hidden out = λ k. cond (eqb k hidden) out (com_by keys (leaf_at leaves k))

-- the tapes of the leaves, with that of the hidden leaf left out; of all of them where `hidden` is 256
abbrev pub raw_by : List ℕ → List ℕ → ℕ → ℕ → ℕ → ℕ
raw_by keys leaves hidden = hide hidden (λ k. vec (tape_by keys (leaf_at leaves k)))

-- what Hash_6 is given: its selector and the commitments
unfoldable pub hashed_of : (ℕ → List ℕ) → List ℕ
hashed_of coms = selector for_leaves ∷ joined 256 coms
