-- `octets::same` meets its contract: d gathers the digits in which the two differ. Assumes nothing.
use Rattle.std.proofs.Common.{ℕ, eqb, sym, ap, ◌∙◌, arith, rules}
use Rattle.std.proofs.lemmas.Iterator.{YieldsList-from_slice, YieldsList-from_zip}
use Rattle.std.proofs.lemmas.Iterator.Consumers.{fold_from_yields_List}
use Rattle.octets.proofs.Alike.{differ, differ-alike, alike-lengths}
use Rattle.octets.proofs.same.Goals as goal

pub returns-then-a-b : goal.returns-then-a-b
returns-then-a-b c = sym (alike-lengths _ _ c.if-a-b.true)

pub returns : goal.returns
returns c =
    let a = c.args.a.now in
    let b = c.args.b.now in
    ap (λ (d : ℕ). eqb d 0)
    (fold_from_yields_List _ differ 0 _ c.fold-d.ensures.ran (YieldsList-from_zip (YieldsList-from_slice a cc) (YieldsList-from_slice b cc)) (λ d x e q k. search rules))
    ∙ differ-alike a b 0 (omega arith)
