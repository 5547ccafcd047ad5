-- `aes::shifted` meets its contract. Assumes nothing.
use Rattle.std.proofs.Common.{List, ℕ, ◌∙◌, refl, ap}
use Rattle.octets.specs.Xor.{xor_b}
use Rattle.octets.specs.Lists.{bytes_of}
use Rattle.aes.proofs.Words.{four, made-column, bytes-xor}
use Rattle.aes.proofs.shifted.Goals as goal

pub returns : goal.returns
returns c = let k = c.args.k in
    let x0 = c.sub_at-x0 in
    let x1 = c.sub_at-x1 in
    let x2 = c.sub_at-x2 in
    let x3 = c.sub_at-x3 in
    bytes-xor c.from_le_bytes.result k
    ∙ ap (λ (l : List ℕ). xor_b l (bytes_of 4 k))
    (made-column c.from_le_bytes.ensures refl x0.type_inv x1.type_inv x2.type_inv x3.type_inv ∙ four x0.ensures x1.ensures x2.ensures x3.ensures)
