-- FIPS 197, section 5.1.1: the substitution box. Its byte field is K: a byte's bit i is the coefficient of ξ^i. Definitions only.
use Rattle.std.specs.Prelude.{ℕ, ◌+◌, ◌*◌, ◌/◌, ◌%◌, ◌^◌}
use Rattle.octets.specs.Xor.{◌⊕◌}
use Rattle.field.specs.Inverse.{inverse}

-- bit i of b, for i taken modulo 8
unfoldable pub bit : ℕ → ℕ → ℕ
bit i b = b / 2 ^ (i % 8) % 2

-- bit i of the affine map's value, with the constant byte 63
unfoldable pub affine_bit : ℕ → ℕ → ℕ
affine_bit b i = bit i b ⊕ bit (i + 4) b ⊕ bit (i + 5) b ⊕ bit (i + 6) b ⊕ bit (i + 7) b ⊕ bit i 0x63

unfoldable pub affine : ℕ → ℕ
affine b =
    affine_bit b 0 + 2 * affine_bit b 1 + 4 * affine_bit b 2 + 8 * affine_bit b 3 + 16 * affine_bit b 4 + 32 * affine_bit b 5
    + 64 * affine_bit b 6
    + 128 * affine_bit b 7

-- the inverse in K, 0 for 0, and then the affine map
unfoldable pub sbox : ℕ → ℕ
sbox a = affine (inverse a)
