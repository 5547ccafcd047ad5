-- `shake::keccak::chi_iota` meets its contract. Assumes nothing.
use mathlib.Core.Path.{refl}
use Rattle.octets.specs.Xor.{◌⊕◌}
use Rattle.octets.specs.Lists.{tab}
use Rattle.shake.specs.Keccak.{unless, chi, iota}
use Rattle.shake.proofs.keccak.chi_iota.Goals as goal

pub returns : goal.returns
unfolding ◌⊕◌ tab unless chi iota
returns c = refl
