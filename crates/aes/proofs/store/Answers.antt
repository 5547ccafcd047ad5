-- `aes::store` meets its contract. Assumes nothing.
use Rattle.aes.proofs.Blocks.{block-stored}
use Rattle.aes.proofs.store.Goals as goal

pub returns : goal.returns
returns c = block-stored c.args.s.now c.args.p c.args.k c.store_word.ensures c.store_word-2.ensures c.store_word-3.ensures c.store_word-4.ensures
