use mathlib.Core.Path.{◌≡◌, ap, ◌∙◌}
use mathlib.Core.List.{List}
use Prim.Native.Nat.{ℕ}
use native.Mathlib.Omega.{arith}
use lib.ListN.{length, take, drop, get_or-replicate, length-take, length-drop}
use Rattle.octets.specs.Lists.{vec}
use Rattle.equations.proofs.Put.{put-part}
use Rattle.equations.proofs.clear_points.Goals as goal

pub returns : goal.returns
returns c =
    let e = c.fill.ensures.after (λ y h. h) in
    let long : length (take 24 (drop 10752 c.args.vectors.now)) ≡ 24 = simp (length-take, length-drop) (omega arith) in
    put-part 10752 24 _ _ _ (omega arith) (c.fill.ensures.len ∙ long) (λ k h. ap (λ (s : List ℕ). vec s k) e ∙ get_or-replicate _ k 0 0 (omega arith))
