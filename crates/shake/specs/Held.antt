-- What the code holds between its calls, and what each call does to it. Definitions only.
use Rattle.std.specs.Prelude.{◌≡◌, List, [], ◌∷◌, ◌++◌, ℕ, ◌+◌, ◌*◌, ◌/◌, ◌%◌, ◌<◌, ◌≤◌, length, take, drop}
use Rattle.shake.specs.Shake.{xor_bytes, absorb_blocks, zeros, absorbed}
use Rattle.shake.specs.declared.Sponge.{Sponge}

abbrev pub sponge : List ℕ → ℕ → Sponge
sponge a j = record { lanes = a; at = j }

-- after the bytes m: the whole blocks are absorbed, and what is left of m is added to the state
unfoldable pub fed : List ℕ → Sponge
fed m = sponge (xor_bytes (absorb_blocks (length m / 168) m zeros) 0 (drop (168 * (length m / 168)) m)) (length m % 168)

-- r is s with the bytes p after those that it was fed
abbrev pub Absorbs : Sponge → List ℕ → Sponge → Type 0
Absorbs s p r = (m : List ℕ) → s ≡ fed m → r ≡ fed (m ++ p)

-- a is the state after the padded message that s was fed
abbrev pub Finishes : Sponge → List ℕ → Type 0
Finishes s a = (m : List ℕ) → s ≡ fed m → a ≡ absorbed m

-- the first n bytes of p, at least one, are added at byte j, none past byte 168
pub record PutSome (a : List ℕ) (j : ℕ) (p : List ℕ) (n : ℕ) (a' : List ℕ) : Type 0 where
  pub some : 0 < n
  pub room : j + n ≤ 168
  pub have : n ≤ length p
  pub put : a' ≡ xor_bytes a j (take n p)

-- the number whose bytes, the low byte first, are p (B.1)
unfoldable pub number : List ℕ → ℕ
number [] = 0
number (b ∷ p) = b + 256 * number p
