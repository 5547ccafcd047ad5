-- `equations::all_lifted` meets its contract: each element is the closure's answer. Assumes nothing.
use mathlib.Core.Path.{ap}
use borrow.Author.Rules.{rules, of_calls}
use Rattle.octets.proofs.Tab.{from_fn-tab}
use Rattle.field.specs.Vec.{lifted}
use Rattle.equations.proofs.all_lifted.Goals as goal

pub returns : goal.returns
returns c =
    from_fn-tab _ _ (lifted c.args.x.now) (λ i y q h. (ap (λ z. record { 0 = z }) h.met.1, search (rules, of_calls))) _ 56 c.from_fn.ensures.items
