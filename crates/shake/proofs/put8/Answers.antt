-- `shake::put8` meets its contract. Assumes nothing.
use Rattle.std.proofs.Common.{ap, ◌∙◌, arith}
use Rattle.octets.specs.Xor.{◌⊕◌}
use Rattle.octets.proofs.Bounds.{bytes-of}
use Rattle.shake.specs.Shake.{xor_lane}
use Rattle.shake.proofs.Number.{number-le_bytes}
use Rattle.shake.proofs.Lanes.{xor_bytes-number}
use Rattle.shake.proofs.put8.Goals as goal

pub returns : goal.returns
unfolding ◌⊕◌ xor_lane
returns c =
    let p = c.args.word.now in
    ap (xor_lane c.args.a.now c.args.k) (c.from_le_bytes.ensures ∙ number-le_bytes p c.told-word)
    ∙ xor_bytes-number p c.args.a.now c.args.k (bytes-of p (λ i h. c.fits-word i)) (omega arith)
