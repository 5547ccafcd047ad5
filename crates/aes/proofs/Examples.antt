-- The worked examples of FIPS 197, section 5.1.1, of the definitions. Assumes nothing.
use mathlib.Core.Path.{◌≡◌, refl}
use Rattle.octets.specs.Xor.{◌⊕◌}
use Rattle.field.specs.Inverse.{inverse, inverses}
use Rattle.aes.specs.Sbox.{bit, affine_bit, affine, sbox}

pub sbox-00 : sbox 0x00 ≡ 0x63
unfolding sbox affine affine_bit bit inverse inverses ◌⊕◌
sbox-00 = refl

pub sbox-53 : sbox 0x53 ≡ 0xed
unfolding sbox affine affine_bit bit inverse inverses ◌⊕◌
sbox-53 = refl
