-- `transcript::test` meets its contract. Assumes nothing.
use mathlib.Core.Path.{refl, ap, ◌∙◌}
use native.Mathlib.Omega.{arith}
use Rattle.octets.specs.Lists.{bytes_of}
use Rattle.octets.proofs.Part.{length-bytes_of}
use Rattle.octets.proofs.Place.{place-write}
use Rattle.paper.specs.Challenge.{passes}
use Rattle.transcript.proofs.test.Goals as goal

pub returns : goal.returns
returns c = (
  place-write 33 4 4 _ (bytes_of 4 c.args.nonce) _ c.args.p.now c.put_nonce.ensures refl (length-bytes_of 4 c.args.nonce) refl (omega arith),
  c.passes.ensures ∙ ap passes c.xof.ensures,
)
