-- `lines::tape` meets its contract. Assumes nothing.
use Rattle.std.proofs.Common.{refl}
use Rattle.lines.proofs.Leaf.{tape-made}
use Rattle.lines.proofs.tape.Goals as goal

pub returns : goal.returns
returns c = tape-made _ c.args.s c.derive-a.result c.derive-b.result c.derive-c.result _ _ _ _ _ _ refl
    c.derive-a.ensures c.derive-b.ensures c.derive-c.ensures
    c.store.ensures c.store-2.ensures c.store-3.ensures
    c.store_word.ensures c.store_word-2.ensures
