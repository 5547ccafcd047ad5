-- `aes::store_word` meets its contract. Assumes nothing.
use Rattle.std.proofs.Common.{◌≡◌, ◌+◌, ◌-◌, ◌∙◌, refl, arith}
use Rattle.octets.specs.Lists.{bytes_of}
use Rattle.octets.proofs.Place.{place-write}
use Rattle.aes.proofs.Words.{column-bytes}
use Rattle.aes.proofs.store_word.Goals as goal

pub returns : goal.returns
unfolding bytes_of
returns c =
    let p = c.args.p in
    let e : p + 4 - p ≡ 4 = omega arith in
    place-write p _ 4 _ (bytes_of 4 c.args.x) _ c.args.s.now (c.copy_from_slice.ensures.after ∙ c.to_le_bytes.ensures ∙ column-bytes c.args.x) refl refl e c.requires
