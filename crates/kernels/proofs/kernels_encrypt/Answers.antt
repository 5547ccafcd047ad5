-- `kernels::kernels_encrypt` meets its contract: a key of 16 bytes is the part of it that is loaded. Assumes nothing.
use Rattle.std.proofs.Common.{◌≡◌, ◌%◌, List, length, ℕ, ap, ◌∙◌, eq-eqb, arith, rules}
use Rattle.octets.proofs.Part.{part-all}
use Rattle.aes.specs.Cipher.{expand_key}
use Rattle.kernels.specs.Kernels.{each_block}
use Rattle.kernels.proofs.kernels_encrypt.Goals as goal

pub returns : goal.returns
returns c =
    let key = c.args.key.now in
    let buf = c.args.buf.now in
    let done : c.each_block.new.buf ≡ each_block (expand_key key) buf =
    c.each_block.ensures ∙ ap (λ (w : List ℕ). each_block w buf) (c.expand-w.ensures ∙ ap expand_key (c.load.ensures ∙ part-all 16 key (omega arith))) in
    record { number = search rules; output = rw (eq-eqb (length key) 16 (omega arith), eq-eqb (length buf % 16) 0 (omega arith)) done }
