-- `keygen::put_values` meets its contract: before turn i the first i values stand in y. Assumes nothing.
use Rattle.std.proofs.Common.{◌≡◌, ap, ◌∙◌, arith}
use Rattle.std.proofs.lemmas.Grind.{common_steps}
use Rattle.octets.specs.Lists.{vec, part}
use Rattle.octets.proofs.Write.{written_none, fill-turn, fill_end}
use Rattle.paper.specs.Keys.{values_at}
use Rattle.paper.proofs.Keys.{length-values_at}
use Rattle.keygen.proofs.Values.{value-is}
use Rattle.keygen.proofs.put_values.Goals as goal

pub loop-i-init : goal.loop-i-init
loop-i-init c = written_none _ _ _

pub loop-i-preserved : goal.loop-i-preserved
unfolding part
loop-i-preserved c =
    let l = c.loop-i in
    let k = c.args.k.now in
    let n = length-values_at (part 28 32 k) (part 0 28 k) in
    let x : c.unwrap.result.now ≡ part 0 28 k = grind (arith, common_steps) in
    fill-turn _ _ _ (omega arith) (omega arith) l.invariant
    (c.value_at.ensures _ c.monomials-w.ensures ∙ value-is _ _ l.i (omega arith) ∙ ap (λ x. vec (values_at (part 28 32 k) x) l.i) x)

pub returns : goal.returns
returns c =
    let m = length-values_at (part 28 32 c.args.k.now) (part 0 28 c.args.k.now) in
    fill_end _ _ _ (omega arith) (omega arith) c.loop-i.invariant
