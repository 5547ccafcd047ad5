-- Document 001, section 2.5.3: the derivation in a tree, under keys that are expanded once. Definitions only.
use Rattle.std.specs.Prelude.{List, ℕ, ◌-◌}
use Rattle.seeds.specs.Expanded.{derive_with, key_at}

-- SeedDerive at layer j: the key of layer 1 is the first of keys that lie end to end
unfoldable pub derive_by : List ℕ → ℕ → List ℕ → List ℕ
derive_by keys j s = derive_with (key_at keys (j - 1)) s
