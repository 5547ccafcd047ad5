-- `seeds::PlainKeys::block` meets its contract. Assumes nothing.
use mathlib.Core.Path.{◌≡◌, ap, ◌∙◌}
use mathlib.Core.List.{List}
use Prim.Native.Nat.{ℕ}
use native.Mathlib.Omega.{arith}
use lib.ListN.{length}
use Rattle.aes.specs.Words.{block_of}
use Rattle.seeds.specs.Expanded.{derive_with, key_at}
use Rattle.seeds.proofs.Keys.{length-plain_keys}
use Rattle.seeds.proofs.Routines.{plain-block}
use Rattle.seeds.proofs.PlainKeys.block.Goals as goal

pub derive_at-requires : goal.derive_at-requires
derive_at-requires c =
    let self = c.args.self.now in
    let l : length self.keys.now ≡ 18304 = ap length self.plain ∙ length-plain_keys in
    omega arith

pub returns : goal.returns
returns c =
    let self = c.args.self.now in
    let s = block_of c.args.s in
    c.derive_at.ensures ∙ ap (λ (l : List ℕ). derive_with (key_at l c.args.i) s) self.plain ∙ plain-block s c.args.i c.requires
