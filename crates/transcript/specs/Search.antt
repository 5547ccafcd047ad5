-- What the nonce search yields, of document 001's algorithm 4 with document 01's allowed tries: the paper's option as the code's.
-- Definitions only.
use Rattle.std.proofs.Math.Option.{Option as PaperOption, some, none}
use Rattle.std.specs.Prelude.{ℕ, Option, Some, None}

unfoldable pub search_of : PaperOption ℕ → Option ℕ
search_of (some n) = Some n
search_of none = None

-- document 01's number of each case
unfoldable pub number_of_search : Option ℕ → ℕ
number_of_search (Some n) = 0
number_of_search None = 5

-- and its value: the nonce
unfoldable pub nonce_of_search : Option ℕ → PaperOption ℕ
nonce_of_search (Some n) = some n
nonce_of_search None = none
