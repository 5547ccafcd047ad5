-- `seeds::put_key` meets its contract. Assumes nothing.
use mathlib.Core.Path.{◌≡◌, refl, ◌∙◌}
use Prim.Native.Nat.{◌+◌, ◌-◌, ◌*◌}
use native.Mathlib.Omega.{arith}
use Rattle.octets.proofs.Place.{place-write}
use Rattle.aes.specs.Cipher.{expand_key}
use Rattle.aes.specs.Words.{block_of}
use Rattle.aes.proofs.Bounds.{length-expand_key}
use Rattle.paper.specs.Symmetric.{tweak_salt}
use Rattle.seeds.specs.Purpose.{place_of}
use Rattle.seeds.proofs.put_key.Goals as goal

pub returns : goal.returns
returns c =
    let a = c.args in
    let e : 176 * a.k + 176 - 176 * a.k ≡ 176 = omega arith in
    place-write (176 * a.k) (176 * a.k + 176 - 176 * a.k) 176 _ (expand_key (tweak_salt (block_of a.salt) (place_of a.purpose) a.e a.j)) a.out.now a.out.now
    (c.copy_from_slice.ensures.after ∙ c.schedule-w.ensures) refl (length-expand_key _) e (omega arith)
