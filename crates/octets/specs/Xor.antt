-- Exclusive-or of numbers, digit by digit, and of lists of bytes, byte by byte. Definitions only.
use Rattle.std.specs.Prelude.{List, [], ◌∷◌, ℕ}
use Rattle.std.specs.Int.Bits.{bit_xor}

infixl 60 ◌⊕◌
unfoldable pub ◌⊕◌ : ℕ → ℕ → ℕ
a ⊕ b = bit_xor a b

-- as long as the shorter of the two
unfoldable pub xor_b : List ℕ → List ℕ → List ℕ
xor_b [] b = []
xor_b (x ∷ a) [] = []
xor_b (x ∷ a) (y ∷ b) = (x ⊕ y) ∷ xor_b a b
