-- Document 001, section 2.5.3, the GGM tree routines (algorithms 14 to 16), by halves: a tree of depth d is a node and two trees of
-- depth d - 1. f is any derivation: f j s is SeedDerive of the seed s under the tweaked salt of layer j. `Layers` has the same
-- algorithms as they stand. Definitions only.
use Rattle.std.specs.Prelude.{◌≡◌, List, [], ◌∷◌, ◌++◌, cond, ℕ, zero, suc, ◌+◌, ◌-◌, ◌*◌, ◌^◌, ltb, length}
use Rattle.octets.specs.Xor.{xor_b}
use Rattle.octets.specs.Lists.{Bytes, part, zero16}

-- ---- a node's two children: node[2k] and node[2k+1], from the seed of node[k] at layer j

abbrev pub left_of : (ℕ → List ℕ → List ℕ) → ℕ → List ℕ → List ℕ
left_of f j s = f j s

abbrev pub right_of : (ℕ → List ℕ → List ℕ) → ℕ → List ℕ → List ℕ
right_of f j s = xor_b (f j s) s

-- ---- below a node of layer j

-- Expand: the 2 ^ d leaf seeds below the node with seed s
unfoldable pub leaves_of : (ℕ → List ℕ → List ℕ) → ℕ → ℕ → List ℕ → List (List ℕ)
leaves_of f zero j s = s ∷ []
leaves_of f (suc d) j s = leaves_of f d (j + 1) (left_of f j s) ++ leaves_of f d (j + 1) (right_of f j s)

-- Open: the d siblings on the way to the hidden leaf i, from the leaf up to the node's children
unfoldable pub path_of : (ℕ → List ℕ → List ℕ) → ℕ → ℕ → ℕ → List ℕ → List (List ℕ)
path_of f zero j i s = []
path_of f (suc d) j i s =
    cond (ltb i (2 ^ d)) (path_of f d (j + 1) i (left_of f j s) ++ (right_of f j s ∷ []))
    (path_of f d (j + 1) (i - 2 ^ d) (right_of f j s) ++ (left_of f j s ∷ []))

-- PartiallyExpand: the leaf seeds from the bytes p of a sibling path, zeros in the place of the hidden leaf i
unfoldable pub rebuild_of : (ℕ → List ℕ → List ℕ) → ℕ → ℕ → ℕ → List ℕ → List (List ℕ)
rebuild_of f zero j i p = zero16 ∷ []
rebuild_of f (suc d) j i p =
    cond (ltb i (2 ^ d)) (rebuild_of f d (j + 1) i p ++ leaves_of f d (j + 1) (part (16 * d) 16 p))
    (leaves_of f d (j + 1) (part (16 * d) 16 p) ++ rebuild_of f d (j + 1) (i - 2 ^ d) p)

-- ---- the whole tree, N = 2 ^ (d + 1): node[2] is the root seed r, node[3] is r xor the offset δ. Its leaves are rebuilt by
-- `rebuild_of f (d + 1) 0`

unfoldable pub tree_of : (ℕ → List ℕ → List ℕ) → ℕ → List ℕ → List ℕ → List (List ℕ)
tree_of f d r δ = leaves_of f d 1 r ++ leaves_of f d 1 (xor_b r δ)

unfoldable pub tree_path_of : (ℕ → List ℕ → List ℕ) → ℕ → ℕ → List ℕ → List ℕ → List (List ℕ)
tree_path_of f d i r δ =
    cond (ltb i (2 ^ d)) (path_of f d 1 i r ++ (xor_b r δ ∷ [])) (path_of f d 1 (i - 2 ^ d) (xor_b r δ) ++ (r ∷ []))

-- ---- what the laws speak of

-- f makes a seed of 16 bytes of a seed of 16 bytes, at each layer
unfoldable pub Keeps16 : (ℕ → List ℕ → List ℕ) → Type 0
Keeps16 f = (j : ℕ) (s : List ℕ) → length s ≡ 16 → length (f j s) ≡ 16

-- f makes bytes of bytes
unfoldable pub KeepsBytes : (ℕ → List ℕ → List ℕ) → Type 0
KeepsBytes f = (j : ℕ) (s : List ℕ) → Bytes s → Bytes (f j s)

-- the xor of seeds of 16 bytes
unfoldable pub xor_all : List (List ℕ) → List ℕ
xor_all [] = zero16
xor_all (s ∷ ss) = xor_b s (xor_all ss)

-- how many inner nodes `leaves_of` works out: the node itself and those of its halves
unfoldable pub inner_of : ℕ → ℕ
inner_of zero = 0
inner_of (suc d) = inner_of d + 1 + inner_of d

-- and `rebuild_of`: none on the hidden way
unfoldable pub part_inner_of : ℕ → ℕ
part_inner_of zero = 0
part_inner_of (suc d) = part_inner_of d + inner_of d
