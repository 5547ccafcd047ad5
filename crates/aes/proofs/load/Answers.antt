-- `aes::load` meets its contract. Assumes nothing.
use Rattle.aes.proofs.Blocks.{block_read}
use Rattle.aes.proofs.load.Goals as goal

pub returns : goal.returns
returns c = block_read c.args.s.now c.args.p _ c.load_word.ensures c.load_word-2.ensures c.load_word-3.ensures c.load_word-4.ensures
