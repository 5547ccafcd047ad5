-- `seeds::tweak` meets its contract. Assumes nothing.
use mathlib.Core.Path.{ap, ◌∙◌}
use Prim.Native.Nat.{ℕ, ◌+◌, ◌*◌}
use native.Mathlib.Omega.{arith}
use Rattle.octets.specs.Xor.{xor_b}
use Rattle.octets.specs.Lists.{bytes_of}
use Rattle.aes.specs.Words.{block_of}
use Rattle.paper.specs.Symmetric.{tweak_salt}
use Rattle.seeds.proofs.Blocks.{block-tweak}
use Rattle.seeds.proofs.tweak.Goals as goal

pub returns : goal.returns
unfolding tweak_salt
returns c =
    let a = c.args in
    block-tweak a.salt (c.selector-sel.result + 4 * a.e + 256 * a.j) (omega arith)
    ∙ ap (λ (n : ℕ). xor_b (block_of a.salt) (bytes_of 16 (n + 4 * a.e + 256 * a.j))) c.selector-sel.ensures
