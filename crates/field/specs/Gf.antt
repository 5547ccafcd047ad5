-- The fields of 256 and of 16 elements, as document 001 has them (section 2.3, and table 5 of section 3.1): an element is the number
-- whose binary digits are its coefficients, lowest first. K = F2[ξ]/(ξ^8 + ξ^4 + ξ^3 + ξ + 1), F = F2[ρ]/(ρ^4 + ρ + 1).
-- The sum of two elements, in either field, is `◌⊕◌`. Every product reads the low 8 (or 4) digits of its operands alone, so the laws hold
-- of all numbers. Definitions only.
use Rattle.std.specs.Prelude.{ℕ, zero, suc, ◌*◌, ◌/◌, ◌%◌, ◌^◌}
use Rattle.octets.specs.Xor.{◌⊕◌}

-- the polynomial's root times a, in the field of 2 ^ (k + 1) elements: the digits move up by one, and the one that leaves, digit k,
-- comes back as `low`, the polynomial less its leading term
unfoldable pub times_root : ℕ → ℕ → ℕ → ℕ
times_root k low a = (a % 2 ^ k * 2) ⊕ (a / 2 ^ k % 2 * low)

-- the sum over i < n of b's digit i times the root to the i, times a
unfoldable pub shift_add : ℕ → ℕ → ℕ → ℕ → ℕ → ℕ
shift_add k low zero a b = 0
shift_add k low (suc n) a b = (b % 2 * a) ⊕ shift_add k low n (times_root k low a) (b / 2)

-- the product in the field of 2 ^ (k + 1) elements
unfoldable pub mul_in : ℕ → ℕ → ℕ → ℕ → ℕ
mul_in k low a b = shift_add k low (suc k) (a % 2 ^ suc k) b

-- the product in K: 0x11b less its leading term is 0x1b
infixl 70 ◌⊗◌
unfoldable pub ◌⊗◌ : ℕ → ℕ → ℕ
a ⊗ b = mul_in 7 0x1b a b

-- the product in F: 0x13 less its leading term is 0x3
unfoldable pub fmul : ℕ → ℕ → ℕ
fmul a b = mul_in 3 0x3 a b

-- where the morphism from F to K takes ρ: ξ^7 + ξ^6 + ξ^5
unfoldable pub rho_in_k : ℕ
rho_in_k = 0xe0

-- the morphism from F to K: of e0 + e1 ρ + e2 ρ^2 + e3 ρ^3, the same with ρ's image for ρ
unfoldable pub lift : ℕ → ℕ
lift e =
    (e % 2 * 1) ⊕ (e / 2 ^ 1 % 2 * rho_in_k) ⊕ (e / 2 ^ 2 % 2 * (rho_in_k ⊗ rho_in_k)) ⊕ (e / 2 ^ 3 % 2 * (rho_in_k ⊗ (rho_in_k ⊗ rho_in_k)))
