-- `aes::sub_at` meets its contract: the second byte of an entry of row 0 is the substituted byte itself. Assumes nothing.
use Rattle.aes.proofs.Rounds.{sub-law}
use Rattle.aes.proofs.sub_at.Goals as goal

pub returns : goal.returns
returns c = sub-law c.args.t.now.words.now c.args.t.now.made c.args.x c.requires
