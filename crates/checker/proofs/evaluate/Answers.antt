-- `checker::evaluate` meets its contract. Assumes nothing.
use Rattle.std.proofs.Common.{arith}
use Rattle.octets.specs.Lists.{part}
use Rattle.paper.specs.Challenge.{hidden_in}
use Rattle.checker.proofs.Lent.{evaluate-holds, evaluate-same}
use Rattle.checker.proofs.evaluate.Goals as goal

pub returns-clause-holds : goal.returns-clause-holds
unfolding part
returns-clause-holds c =
    let g = c.args.sig.now in
    let i = hidden_in c.args.c.now in
    let a = c.eval_all in
    let p = c.put.ensures in
    let f = c.first_commitment-a.ensures in
    evaluate-holds g i _ c.told-sig (omega arith) a.ensures _ _ _ p f.rest

pub returns-clause-same : goal.returns-clause-same
unfolding part
returns-clause-same c =
    let g = c.args.sig.now in
    let i = hidden_in c.args.c.now in
    let a = c.eval_all in
    let p = c.put.ensures in
    let f = c.first_commitment-a.ensures in
    evaluate-same g i _ c.told-sig (omega arith) a.ensures _ _ _ p f.hash c.same.ensures
