-- `aes::last_round` meets its contract. Assumes nothing.
use Rattle.aes.proofs.Rounds.{last-law}
use Rattle.aes.proofs.last_round.Goals as goal

pub returns : goal.returns
returns c = last-law c.args.s c.args.k _ c.shifted-a.ensures c.shifted-b.ensures c.shifted-c.ensures c.shifted-d.ensures
