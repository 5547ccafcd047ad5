-- `aes::next_key` meets its contract. Assumes nothing.
use mathlib.Core.Path.{◌∙◌, refl, ap}
use Rattle.std.proofs.lemmas.Nat.{xor_of_8}
use lib.Bits.{bit_xor}
use Rattle.octets.specs.Xor.{xor_b}
use Rattle.octets.specs.Lists.{bytes_of}
use Rattle.aes.proofs.Keys.{changed}
use Rattle.aes.proofs.Words.{made-column, bytes-xor}
use Rattle.aes.proofs.next_key.Goals as goal

pub returns : goal.returns
returns c = let k = c.args.k in
    let x0 = c.sub_at in
    let x1 = c.sub_at-x1 in
    let x2 = c.sub_at-x2 in
    let x3 = c.sub_at-x3 in
    let x = c.from_le_bytes in
    let a = bit_xor k.a x.result in
    let b = bit_xor k.b a in
    let d = bit_xor k.c b in
    record {
      first =
          bytes-xor k.a x.result
          ∙ ap (xor_b (bytes_of 4 k.a))
          (made-column x.ensures refl (xor_of_8 x0.result c.args.rc x0.type_inv c.ranges.rc.fits) x1.type_inv x2.type_inv x3.type_inv
          ∙ changed k.d c.args.rc x0.result x1.result x2.result x3.result x0.ensures x1.ensures x2.ensures x3.ensures);
      second = bytes-xor k.b a;
      third = bytes-xor k.c b;
      fourth = bytes-xor k.d d;
    }
