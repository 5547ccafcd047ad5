-- `folding::correction` meets its contract. Assumes nothing.
use mathlib.Core.Path.{ap, ◌∙◌}
use mathlib.Core.List.{List}
use Prim.Native.Nat.{ℕ}
use Rattle.octets.specs.Lists.{part}
use Rattle.octets.specs.Xor.{xor_b}
use Rattle.folding.specs.Rows.{sent}
use Rattle.folding.proofs.correction.Goals as goal

pub returns : goal.returns
unfolding sent part
returns c =
    let s = c.args in
    c.add.ensures ∙ ap (λ (l : List ℕ). xor_b l (part 16 12 s.f.now)) c.copy_from_slice.ensures.after
