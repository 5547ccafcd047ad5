-- `field::dot` meets its contract. Assumes nothing.
use Rattle.std.proofs.Common.{◌∙◌, arith, rules}
use Rattle.std.proofs.lemmas.Iterator.{YieldsList-from_slice, YieldsList-from_zip}
use Rattle.std.proofs.lemmas.Iterator.Consumers.{fold_from_yields_List}
use Rattle.field.proofs.Loops.{add_product, products-dot}
use Rattle.field.proofs.dot.Goals as goal

pub returns : goal.returns
returns c =
    let a = c.args.a.now in
    let b = c.args.b.now in
    fold_from_yields_List _ add_product 0 _ c.fold.ensures.ran (YieldsList-from_zip (YieldsList-from_slice a cc) (YieldsList-from_slice b cc)) (λ r x e q k. search rules)
    ∙ products-dot a b (omega arith)
