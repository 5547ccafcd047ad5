-- `shake::Sponge::finish` meets its contract. Assumes nothing.
use mathlib.Core.Path.{ap, ◌∙◌}
use mathlib.Core.List.{List}
use Prim.Native.Nat.{ℕ}
use Rattle.shake.specs.Keccak.{keccak_f}
use Rattle.shake.specs.Shake.{xor_byte}
use Rattle.shake.specs.declared.Sponge.{Sponge}
use Rattle.shake.proofs.Blocks.{held, finish-fed}
use Rattle.shake.proofs.Sponge.finish.Goals as goal

pub returns : goal.returns
returns c = λ m e.
    c.keccak_f.ensures
    ∙ ap keccak_f (c.put-2.ensures ∙ ap (λ (a : List ℕ). xor_byte a 167 0x80) c.put.ensures)
    ∙ ap (λ (s : Sponge). keccak_f (xor_byte (xor_byte s.lanes s.at 0x1f) 167 0x80)) (held m e)
    ∙ finish-fed m
