-- `signer::results` meets its contract: before turn i, i equations are added. Assumes nothing.
use mathlib.Core.Path.{◌≡◌, ◌∙◌}
use native.Mathlib.Omega.{arith}
use Rattle.signer.proofs.Within.{within-trans, within-before}
use Rattle.signer.proofs.Columns.{sums-turn, sums-end}
use Rattle.signer.proofs.results.Goals as goal

pub result_one-d-requires : goal.result_one-d-requires
result_one-d-requires c =
    let l = c.loop-i in
    let w = c.args.work.now in (
      within-before 42401 952 w l.work l.invariant.0 0 18304 (omega arith) (omega arith) ∙ c.requires,
      omega arith,
    )

pub loop-i-preserved : goal.loop-i-preserved
loop-i-preserved c =
    let l = c.loop-i in
    let r = c.result_one-d in
    (within-trans _ _ _ _ _ l.invariant.0 r.ensures.rest, sums-turn c.args.pk.now c.args.work.now l.work _ l.i l.d r.result (omega arith) l.invariant.0 l.invariant.1 r.ensures.adds)

pub returns-clause-adds : goal.returns-clause-adds
returns-clause-adds c =
    let l = c.loop-i in
    let n : l.i ≡ 28 = omega arith in
    sums-end c.args.pk.now c.args.work.now l.work l.i l.d (omega arith) n l.invariant.1
