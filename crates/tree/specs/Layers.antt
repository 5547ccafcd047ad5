-- Document 001, algorithms 14, 15 and 16 as they stand: an array of nodes, filled layer by layer. An array is a function of the place.
-- D is log2(N), so N is 2 ^ D. f is any derivation: f j s is SeedDerive of the seed s under the tweaked salt of layer j. Definitions only.
use Rattle.std.specs.Prelude.{List, [], ◌∷◌, cond, ℕ, zero, suc, ◌+◌, ◌-◌, ◌*◌, ◌/◌, ◌^◌, eqb}
use Rattle.std.proofs.Math.Option.{Option, none, some, get_or}
use Rattle.octets.specs.Xor.{◌⊕◌, xor_b}
use Rattle.octets.specs.Lists.{part, zero16}

-- ---- arrays and loops

-- node[k] ← s
unfoldable pub put : {A : Type 0} → ℕ → A → (ℕ → A) → ℕ → A
put k s node m = cond (eqb m k) s (node m)

-- for k = a to a + n - 1 do x ← body k x
unfoldable pub loop : {A : Type 0} → ℕ → ℕ → (ℕ → A → A) → A → A
loop a zero body x = x
loop a (suc n) body x = loop (a + 1) n body (body a x)

-- node[a], .. node[a + n - 1]
unfoldable pub row : ℕ → ℕ → (ℕ → List ℕ) → List (List ℕ)
row a zero node = []
row a (suc n) node = node a ∷ row (a + 1) n node

-- ---- algorithm 14, GGMTree.Expand

-- lines 6 and 7
unfoldable pub derive_node : (ℕ → List ℕ → List ℕ) → ℕ → ℕ → (ℕ → List ℕ) → ℕ → List ℕ
derive_node f j k node = put (2 * k + 1) (xor_b (f j (node k)) (node k)) (put (2 * k) (f j (node k)) node)

-- lines 1 to 7: node
unfoldable pub ggm_nodes : (ℕ → List ℕ → List ℕ) → ℕ → List ℕ → List ℕ → ℕ → List ℕ
ggm_nodes f D rseed δ =
    loop 1 (D - 1) (λ j. loop (2 ^ j) (2 ^ j) (derive_node f j)) (put 3 (xor_b rseed δ) (put 2 rseed (λ k. [])))

-- lines 8 to 10: lseed
unfoldable pub ggm_expand : (ℕ → List ℕ → List ℕ) → ℕ → List ℕ → List ℕ → List (List ℕ)
ggm_expand f D rseed δ = row (2 ^ D) (2 ^ D) (ggm_nodes f D rseed δ)

-- ---- algorithm 15, GGMTree.Open

-- lines 2 to 4: n turns, of which the first is at the hidden node i
unfoldable pub siblings : ℕ → (ℕ → List ℕ) → ℕ → List (List ℕ)
siblings zero node i = []
siblings (suc n) node i = node (i ⊕ 1) ∷ siblings n node (i / 2)

unfoldable pub ggm_open : ℕ → (ℕ → List ℕ) → ℕ → List (List ℕ)
ggm_open D node hidden = siblings D node (2 ^ D + hidden)

-- ---- algorithm 16, GGMTree.PartiallyExpand: `none` is ⊥, path[j] is the j-th seed of the bytes `path`

-- lines 3 to 5: n turns, of which the first is at the hidden node i with path[j]
unfoldable pub assign : ℕ → ℕ → ℕ → List ℕ → (ℕ → Option (List ℕ)) → ℕ → Option (List ℕ)
assign zero j i path node = node
assign (suc n) j i path node = assign n (j + 1) (i / 2) path (put (i ⊕ 1) (some (part (16 * j) 16 path)) node)

-- lines 9 to 11: what node[k] holds decides
unfoldable pub derive_given : (ℕ → List ℕ → List ℕ) → ℕ → ℕ → Option (List ℕ) → (ℕ → Option (List ℕ)) → ℕ → Option (List ℕ)
derive_given f j k none node = node
derive_given f j k (some s) node = put (2 * k + 1) (some (xor_b (f j s) s)) (put (2 * k) (some (f j s)) node)

-- lines 1 to 11: node
unfoldable pub ggm_partial_nodes : (ℕ → List ℕ → List ℕ) → ℕ → List ℕ → ℕ → ℕ → Option (List ℕ)
ggm_partial_nodes f D path hidden =
    loop 1 (D - 1) (λ j. loop (2 ^ j) (2 ^ j) (λ k node. derive_given f j k (node k) node))
    (assign D 0 (2 ^ D + hidden) path (λ k. none))

-- lines 12 to 14: lseed, with zeros for ⊥
unfoldable pub ggm_partially_expand : (ℕ → List ℕ → List ℕ) → ℕ → List ℕ → ℕ → List (List ℕ)
ggm_partially_expand f D path hidden = row (2 ^ D) (2 ^ D) (λ k. get_or (ggm_partial_nodes f D path hidden k) zero16)
