-- FIPS 197: AES-128. A state is its list of 16 bytes, column after column: byte r + 4 * c stands in row r and column c
-- (section 3.4). A word is its list of 4 bytes. Sums of bytes are `◌⊕◌` and `xor_b`, products are K's. Definitions only.
use Rattle.std.specs.Prelude.{List, [], ◌∷◌, ◌++◌, map, ℕ, zero, suc, ◌+◌, ◌-◌, ◌*◌, ◌/◌, ◌%◌}
use Rattle.octets.specs.Lists.{vec, view, tab, part, joined}
use Rattle.octets.specs.Xor.{◌⊕◌, xor_b}
use Rattle.field.specs.Gf.{◌⊗◌, times_root}
use Rattle.aes.specs.Sbox.{sbox}

-- ---- the cipher, 5.1

-- SubBytes, 5.1.1; of a word it is SubWord, 5.2
unfoldable pub sub_bytes : List ℕ → List ℕ
sub_bytes s = map sbox s

-- ShiftRows, 5.1.2: row r is moved to the left by r places; what comes to byte i stood r columns on
unfoldable pub shift_rows : List ℕ → List ℕ
shift_rows s = tab 16 (λ i. vec s ((i + 4 * (i % 4)) % 16))

-- MixColumns, 5.1.3, on one column
unfoldable pub mix_column : ℕ → ℕ → ℕ → ℕ → List ℕ
mix_column a b c d =
    (2 ⊗ a ⊕ 3 ⊗ b ⊕ c ⊕ d) ∷ (a ⊕ 2 ⊗ b ⊕ 3 ⊗ c ⊕ d) ∷ (a ⊕ b ⊕ 2 ⊗ c ⊕ 3 ⊗ d) ∷ (3 ⊗ a ⊕ b ⊕ c ⊕ 2 ⊗ d) ∷ []

unfoldable pub mix_columns : List ℕ → List ℕ
mix_columns s = joined 4 (λ c. mix_column (view s (4 * c) 0) (view s (4 * c) 1) (view s (4 * c) 2) (view s (4 * c) 3))

-- AddRoundKey, 5.1.4, with round key r of an expanded key
unfoldable pub add_round_key : List ℕ → ℕ → List ℕ → List ℕ
add_round_key w r s = xor_b s (part (16 * r) 16 w)

-- the state after r full rounds
unfoldable pub rounds : List ℕ → List ℕ → ℕ → List ℕ
rounds w x zero = add_round_key w 0 x
rounds w x (suc r) = add_round_key w (suc r) (mix_columns (shift_rows (sub_bytes (rounds w x r))))

-- Cipher: nine full rounds, and a last one that mixes no columns
unfoldable pub cipher : List ℕ → List ℕ → List ℕ
cipher w x = add_round_key w 10 (shift_rows (sub_bytes (rounds w x 9)))

-- ---- KeyExpansion, 5.2

unfoldable pub rot_word : List ℕ → List ℕ
rot_word [] = []
rot_word (a ∷ s) = s ++ (a ∷ [])

-- ξ to the power j, and the round constant j: ξ to the power j - 1, and three zero bytes
unfoldable pub x_power : ℕ → ℕ
x_power zero = 1
x_power (suc j) = times_root 7 0x1b (x_power j)

unfoldable pub rcon : ℕ → List ℕ
rcon j = x_power (j - 1) ∷ 0 ∷ 0 ∷ 0 ∷ []

-- what word i adds to word i - 4, of t, which is word i - 1: q is i modulo 4, and j is i / 4
unfoldable pub temp : ℕ → ℕ → List ℕ → List ℕ
temp zero j t = xor_b (sub_bytes (rot_word t)) (rcon j)
temp (suc q) j t = t

-- word i of the expanded key; the first four are the key
unfoldable pub key_word : List ℕ → ℕ → List ℕ
key_word k zero = tab 4 (view k 0)
key_word k (suc zero) = tab 4 (view k 4)
key_word k (suc (suc zero)) = tab 4 (view k 8)
key_word k (suc (suc (suc zero))) = tab 4 (view k 12)
key_word k (suc (suc (suc (suc i)))) = xor_b (key_word k i) (temp ((i + 4) % 4) ((i + 4) / 4) (key_word k (suc (suc (suc i)))))

unfoldable pub expand_key : List ℕ → List ℕ
expand_key k = joined 44 (key_word k)

-- AES-128 of a key of 16 bytes and a block of 16 bytes
unfoldable pub aes128 : List ℕ → List ℕ → List ℕ
aes128 k x = cipher (expand_key k) x
