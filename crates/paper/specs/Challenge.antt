-- Document 001, algorithm 4, SampleChallenge: the challenge of a nonce, and the first nonce that passes; and document 01's allowed tries.
-- Definitions only.
use Rattle.std.specs.Prelude.{List, ◌++◌, Bool, true, false, ℕ, zero, suc, ◌+◌, ◌*◌, ◌%◌, eqb}
use Rattle.std.proofs.Math.Option.{Option, none, some}
use Rattle.octets.specs.Lists.{vec}
use Rattle.paper.specs.Symmetric.{xof, for_challenge}

-- lines 2 and 5: 17 indices of 8 bits, and val of 9
unfoldable pub challenge : List ℕ → List ℕ → List ℕ
challenge h nonce = xof for_challenge (h ++ nonce) 19

-- i*[e]
unfoldable pub hidden_in : List ℕ → ℕ → ℕ
hidden_in c e = vec c e

-- line 3: whether val is 0
unfoldable pub passes : List ℕ → Bool
passes c = eqb (vec c 17 + 256 * (vec c 18 % 2)) 0

-- the first number below t of which p holds
unfoldable pub only_if : Bool → ℕ → Option ℕ
only_if true n = some n
only_if false n = none

unfoldable pub or_else : Option ℕ → Option ℕ → Option ℕ
or_else (some n) o = some n
or_else none o = o

unfoldable pub first_below : (ℕ → Bool) → ℕ → Option ℕ
first_below p zero = none
first_below p (suc t) = or_else (first_below p t) (only_if (p t) t)
