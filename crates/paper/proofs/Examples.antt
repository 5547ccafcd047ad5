-- Document 01's table of twelve worked examples, and three more that pin the order of bytes. Assumes nothing.
use mathlib.Core.Path.{◌≡◌, refl}
use mathlib.Core.List.{[], ◌∷◌}
use Rattle.octets.specs.Xor.{◌⊕◌, xor_b}
use Rattle.octets.specs.Lists.{part, bytes_of, zero16}
use Rattle.field.specs.Gf.{◌⊗◌}
use Rattle.aes.specs.Sbox.{sbox}
use Rattle.aes.proofs.Examples as aes
use Rattle.field.proofs.Examples as field
use Rattle.paper.specs.Symmetric.{selectors, selector, derive, tweak_salt, psi}
use Rattle.algebra.specs.Folding.{point}

-- 1 to 4: the Gray code of 0, 1, 2, 3
pub gray-0-to-3 : (point 0 ≡ 0) × (point 1 ≡ 1) × (point 2 ≡ 3) × (point 3 ≡ 2)
unfolding point ◌⊕◌
gray-0-to-3 = (refl, refl, refl, refl)

-- 5 to 8: of 7, 8, 128, 255
pub gray-7-to-255 : (point 7 ≡ 4) × (point 8 ≡ 12) × (point 128 ≡ 192) × (point 255 ≡ 128)
unfolding point ◌⊕◌
gray-7-to-255 = (refl, refl, refl, refl)

-- 9 and 10: FIPS 197's byte field
pub product-57-83 : 0x57 ⊗ 0x83 ≡ 0xc1
product-57-83 = field.product-57-83

pub product-57-13 : 0x57 ⊗ 0x13 ≡ 0xfe
product-57-13 = field.product-57-13

-- 11 and 12: the substitution table
pub sbox-00 : sbox 0x00 ≡ 0x63
sbox-00 = aes.sbox-00

pub sbox-53 : sbox 0x53 ≡ 0xed
sbox-53 = aes.sbox-53

-- tree 1, layer 2: byte 0 of the salt changes by 2 + 4, byte 1 by 2
pub tweak-1-2 : tweak_salt zero16 derive 1 2 ≡ 6 ∷ 2 ∷ 0 ∷ 0 ∷ 0 ∷ 0 ∷ 0 ∷ 0 ∷ 0 ∷ 0 ∷ 0 ∷ 0 ∷ 0 ∷ 0 ∷ 0 ∷ 0 ∷ []
unfolding tweak_salt selector selectors bytes_of xor_b ◌⊕◌
tweak-1-2 = refl

pub psi-halves : psi (1 ∷ 2 ∷ 3 ∷ 4 ∷ 5 ∷ 6 ∷ 7 ∷ 8 ∷ 16 ∷ 16 ∷ 16 ∷ 16 ∷ 16 ∷ 16 ∷ 16 ∷ 16 ∷ [])
    ≡ 17 ∷ 18 ∷ 19 ∷ 20 ∷ 21 ∷ 22 ∷ 23 ∷ 24 ∷ 1 ∷ 2 ∷ 3 ∷ 4 ∷ 5 ∷ 6 ∷ 7 ∷ 8 ∷ []
unfolding psi part xor_b ◌⊕◌
psi-halves = refl

pub low-byte-first : bytes_of 4 1332 ≡ 52 ∷ 5 ∷ 0 ∷ 0 ∷ []
unfolding bytes_of
low-byte-first = refl
