-- `folding::position` meets its contract. Assumes nothing.
use Rattle.std.proofs.Common.{◌≡◌, ◌∙◌, rules}
use Rattle.std.specs.Int.{trailing_ones}
use Prim.Native.Nat.{min}
use mir.Syntax.{w64}
use Rattle.folding.proofs.Lowest.{ones-position}
use Rattle.folding.proofs.position.Goals as goal

pub returns : goal.returns
returns c =
    let e : c.min.result ≡ min (trailing_ones w64 c.args.i) 7 = search rules in
    e ∙ ones-position c.args.i c.requires
