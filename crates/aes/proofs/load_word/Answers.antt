-- `aes::load_word` meets its contract. Assumes nothing.
use Rattle.std.proofs.Common.{◌+◌, ◌∙◌, refl, sym}
use Rattle.aes.proofs.Words.{made-column}
use Rattle.aes.proofs.Blocks.{word_read}
use Rattle.aes.proofs.load_word.Goals as goal

pub returns : goal.returns
returns c = let byte = c.type_inv.s in
    let p = c.args.p in
    made-column c.from_le_bytes.ensures refl (byte p).fits (byte (p + 1)).fits (byte (p + 2)).fits (byte (p + 3)).fits ∙ sym (word_read c.args.s.now p c.requires)
