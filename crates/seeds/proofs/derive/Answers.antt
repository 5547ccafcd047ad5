-- `seeds::derive` meets its contract. Assumes nothing.
use mathlib.Core.Path.{ap₂, ◌∙◌}
use Rattle.octets.specs.Xor.{xor_b}
use Rattle.seeds.specs.Expanded.{derive_with}
use Rattle.seeds.proofs.derive.Goals as goal

pub returns : goal.returns
unfolding derive_with
returns c = c.bitxor.ensures ∙ ap₂ xor_b c.encrypt.ensures c.psi.ensures
