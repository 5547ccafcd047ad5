-- `lines::commitment` meets its contract. Assumes nothing.
use Rattle.std.proofs.Common.{refl}
use Rattle.lines.proofs.Leaf.{com-made}
use Rattle.lines.proofs.commitment.Goals as goal

pub returns : goal.returns
returns c = com-made _ c.args.s c.derive-a.result c.derive-b.result _ _ _ refl c.derive-a.ensures c.derive-b.ensures c.store.ensures c.store-2.ensures
