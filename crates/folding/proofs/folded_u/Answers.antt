-- `folding::folded_u` meets its contract. Assumes nothing.
use Rattle.std.proofs.Common.{◌≡◌, ◌+◌, ◌*◌, ap, ◌∙◌, arith, rules}
use Rattle.octets.specs.Lists.{vec}
use Rattle.folding.specs.Rows.{u_fold}
use Rattle.folding.proofs.folded_u.Goals as goal

pub returns : goal.returns
unfolding u_fold
returns c =
    let s = c.args in
    c.weighted.ensures (λ j. vec s.f.now (56 * (j + 1) + (28 + s.i)))
    (λ j x h q.
    let read : x ≡ vec s.f.now (56 * j + 84 + s.i) = search rules in
    let at : 56 * j + 84 + s.i ≡ 56 * (j + 1) + (28 + s.i) = omega arith in
    read ∙ ap (vec s.f.now) at)
