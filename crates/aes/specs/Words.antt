-- The code's view of FIPS 197: a column is a number of 32 bits with its first byte lowest, a block is its four columns, and a table
-- holds what each substituted byte adds to a mixed column. Definitions only.
use Rattle.std.specs.Prelude.{◌≡◌, List, [], ◌∷◌, ◌++◌, ℕ, zero, suc, ◌/◌, ◌%◌, ◌<◌}
use Rattle.octets.specs.Lists.{vec, bytes_of}
use Rattle.octets.specs.Xor.{xor_b}
use Rattle.field.specs.Gf.{◌⊗◌}
use Rattle.aes.specs.declared.Cols.{Cols}
use Rattle.aes.specs.Sbox.{sbox}
use Rattle.aes.specs.Cipher.{sub_bytes, rot_word}

-- the sixteen bytes of a block
unfoldable pub block_of : Cols → List ℕ
block_of k = bytes_of 4 k.a ++ (bytes_of 4 k.b ++ (bytes_of 4 k.c ++ bytes_of 4 k.d))

-- the column of MixColumns' matrix that meets row i, times s
unfoldable pub spread : ℕ → ℕ → List ℕ
spread zero s = (2 ⊗ s) ∷ s ∷ s ∷ (3 ⊗ s) ∷ []
spread (suc zero) s = (3 ⊗ s) ∷ (2 ⊗ s) ∷ s ∷ s ∷ []
spread (suc (suc zero)) s = s ∷ (3 ⊗ s) ∷ (2 ⊗ s) ∷ s ∷ []
spread (suc (suc (suc i))) s = s ∷ s ∷ (3 ⊗ s) ∷ (2 ⊗ s) ∷ []

-- a table of 4 times 256 words: entry 256 * i + x is what the byte x in row i adds
pub record Table (t : List ℕ) : Type 0 where
  pub entry : (m : ℕ) → m < 1024 → bytes_of 4 (vec t m) ≡ spread (m / 256) (sbox (m % 256))

-- the next round key n of a round key k, with the first byte of the round constant
pub record NextKey (k : Cols) (rc : ℕ) (n : Cols) : Type 0 where
  pub first : bytes_of 4 n.a ≡ xor_b (bytes_of 4 k.a) (xor_b (sub_bytes (rot_word (bytes_of 4 k.d))) (rc ∷ 0 ∷ 0 ∷ 0 ∷ []))
  pub second : bytes_of 4 n.b ≡ xor_b (bytes_of 4 k.b) (bytes_of 4 n.a)
  pub third : bytes_of 4 n.c ≡ xor_b (bytes_of 4 k.c) (bytes_of 4 n.b)
  pub fourth : bytes_of 4 n.d ≡ xor_b (bytes_of 4 k.d) (bytes_of 4 n.c)
