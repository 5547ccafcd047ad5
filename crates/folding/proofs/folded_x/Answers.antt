-- `folding::folded_x` meets its contract. Assumes nothing.
use Rattle.std.proofs.Common.{◌≡◌, ℕ, ◌+◌, ◌-◌, ◌*◌, ap₂, ◌∙◌, arith, rules}
use Rattle.octets.specs.Lists.{part}
use Rattle.field.specs.Vec.{lifted}
use Rattle.folding.specs.Rows.{x_fold}
use Rattle.folding.proofs.folded_x.Goals as goal

pub returns : goal.returns
unfolding x_fold part
returns c =
    let s = c.args in
    c.weighted.ensures (λ j. lifted (part (56 * (j + 1)) 28 s.f.now) s.k)
    (λ j x h q.
    let read : x ≡ lifted (part (56 * j + 56) (56 * j + 84 - (56 * j + 56)) s.f.now) s.k = search rules in
    let at : 56 * j + 56 ≡ 56 * (j + 1) = omega arith in
    let all : 56 * j + 84 - (56 * j + 56) ≡ 28 = omega arith in
    read ∙ ap₂ (λ (o n : ℕ). lifted (part o n s.f.now) s.k) at all)
