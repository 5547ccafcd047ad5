-- Worked examples, by computing. They pin constants that no law pins: the products of every field of 256 elements obey the same laws, and
-- with any of the four roots of ρ^4 + ρ + 1 in K the lift is a morphism. Assumes nothing.
use mathlib.Core.Path.{◌≡◌, refl}
use Rattle.octets.specs.Xor.{◌⊕◌}
use Rattle.field.specs.Gf.{times_root, shift_add, mul_in, ◌⊗◌, fmul, rho_in_k, lift}

-- FIPS 197, sections 4.2 and 4.2.1
pub product-57-83 : 0x57 ⊗ 0x83 ≡ 0xc1
unfolding ◌⊗◌ mul_in shift_add times_root ◌⊕◌
product-57-83 = refl

pub product-57-13 : 0x57 ⊗ 0x13 ≡ 0xfe
unfolding ◌⊗◌ mul_in shift_add times_root ◌⊕◌
product-57-13 = refl

-- ρ^4 is ρ + 1 in F
pub product-rho-rho3 : fmul 0x2 0x8 ≡ 0x3
unfolding fmul mul_in shift_add times_root ◌⊕◌
product-rho-rho3 = refl

-- document 001, section 3.1: ρ goes to ξ^7 + ξ^6 + ξ^5
pub lift-rho : lift 0x2 ≡ 0xe0
unfolding lift rho_in_k ◌⊗◌ mul_in shift_add times_root ◌⊕◌
lift-rho = refl

-- which is a root of ρ^4 + ρ + 1 in K
pub root-rho : (rho_in_k ⊗ (rho_in_k ⊗ (rho_in_k ⊗ rho_in_k))) ⊕ rho_in_k ⊕ 1 ≡ 0
unfolding rho_in_k ◌⊗◌ mul_in shift_add times_root ◌⊕◌
root-rho = refl
