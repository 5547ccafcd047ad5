-- `octets::put` meets its contract. Assumes nothing.
use mathlib.Core.Path.{◌≡◌, refl}
use native.Mathlib.Omega.{arith}
use Prim.Native.Nat.{◌+◌, ◌-◌}
use lib.ListN.{length}
use Rattle.octets.proofs.Place.{place-write}
use Rattle.octets.proofs.put.Goals as goal

pub returns : goal.returns
returns c =
    let n = length c.args.text.now in
    let e : c.args.at + n - c.args.at ≡ n = omega arith in
    place-write c.args.at _ n _ c.args.text.now _ c.args.out.now c.copy.ensures refl refl e c.requires
