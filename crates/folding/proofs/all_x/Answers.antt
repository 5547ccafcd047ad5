-- `folding::all_x` meets its contract. Assumes nothing.
use Rattle.std.proofs.Common.{rules}
use Rattle.octets.proofs.Tab.{from_fn-tab}
use Rattle.folding.specs.Rows.{x_fold}
use Rattle.folding.proofs.all_x.Goals as goal

pub returns : goal.returns
returns c = from_fn-tab _ _ (x_fold c.args.f.now) (λ i y q k. search rules) _ 56 c.from_fn.ensures.items
