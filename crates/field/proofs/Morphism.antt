-- The morphism from F to K as the code works it out: by the digits of its argument, with the powers of ρ's image written out.
-- Assumes nothing.
use mathlib.Core.Path.{◌≡◌, refl, sym, ap, ap₂}
use Prim.Native.Nat.{ℕ, ◌*◌, ◌/◌, ◌%◌}
use native.Mathlib.Nat.{mul-one}
use lib.Bits.{bit_xor}
use Rattle.octets.specs.Xor.{◌⊕◌}
use Rattle.field.specs.Gf.{times_root, shift_add, mul_in, ◌⊗◌, rho_in_k, lift}

-- ρ^2 and ρ^3 in K
pub rho-squared : 0x5d ≡ rho_in_k ⊗ rho_in_k
unfolding rho_in_k ◌⊗◌ mul_in shift_add times_root ◌⊕◌
rho-squared = refl

pub rho-cubed : 0xb0 ≡ rho_in_k ⊗ (rho_in_k ⊗ rho_in_k)
unfolding rho_in_k ◌⊗◌ mul_in shift_add times_root ◌⊕◌
rho-cubed = refl

pub lift-digits : (n : ℕ) → bit_xor (bit_xor (bit_xor (n % 2) (n / 2 % 2 * 0xe0)) (n / 4 % 2 * 0x5d)) (n / 8 % 2 * 0xb0) ≡ lift n
unfolding lift ◌⊕◌ rho_in_k
lift-digits n =
    ap₂ bit_xor
    (ap₂ bit_xor (ap (λ (x : ℕ). bit_xor x (n / 2 % 2 * 0xe0)) (sym (mul-one (n % 2)))) (ap (λ (x : ℕ). n / 4 % 2 * x) rho-squared))
    (ap (λ (x : ℕ). n / 8 % 2 * x) rho-cubed)
