-- A purpose's place in the table of selectors (2.5.5). Definitions only.
use Rattle.std.specs.Prelude.{ℕ}
use Rattle.paper.specs.Symmetric.{for_key, for_equations, for_message, for_alphas, for_transcript, for_challenge, for_leaves, for_commitment, for_gamma}
use Rattle.paper.specs.Symmetric.{commit_first, commit_second, derive, expand}
use Rattle.seeds.specs.declared.Purpose.{Purpose}
use Rattle.seeds.specs.declared.Purpose.TheVariants.{Key, Equations, Message, Alphas, Transcript, Challenge, Leaves, Commitment, Gamma}
use Rattle.seeds.specs.declared.Purpose.TheVariants.{CommitFirst, CommitSecond, Derive, Expand}

abbrev pub place_of : Purpose → ℕ
place_of Key = for_key
place_of Equations = for_equations
place_of Message = for_message
place_of Alphas = for_alphas
place_of Transcript = for_transcript
place_of Challenge = for_challenge
place_of Leaves = for_leaves
place_of Commitment = for_commitment
place_of Gamma = for_gamma
place_of CommitFirst = commit_first
place_of CommitSecond = commit_second
place_of Derive = derive
place_of Expand = expand
