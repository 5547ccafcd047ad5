-- `aes::round` meets its contract. Assumes nothing.
use Rattle.aes.proofs.Rounds.{round-law}
use Rattle.aes.proofs.round.Goals as goal

pub returns : goal.returns
returns c = round-law c.args.s c.args.k _ c.mixed-a.ensures c.mixed-b.ensures c.mixed-c.ensures c.mixed-d.ensures
