-- How many leaves a tree and its halves have: powers of two. Assumes nothing.
use mathlib.Core.Path.{◌≡◌, refl, sym, ap, ◌∙◌}
use Prim.Native.Nat.{ℕ, zero, suc, ◌+◌, ◌-◌, ◌*◌, ◌^◌}
use native.Mathlib.Nat.{pow-suc, mul_assoc, mul_comm, add-mul, one-mul}
use native.Mathlib.Numerals.{sub-one, add-one}
use native.Mathlib.Omega.{arith}

pub two-zero : {d : ℕ} → d ≡ 0 → 2 ^ d ≡ 1
two-zero e = ap (λ (n : ℕ). 2 ^ n) e

pub pow-half : (d : ℕ) → (d ≡ 0 → ⊥) → 2 ^ d ≡ 2 * 2 ^ (d - 1)
pow-half zero f = absurd (f refl)
pow-half (suc d) f = rw (sub-one, pow-suc) (omega arith)

pub pow_more : (d : ℕ) → 2 ^ (d + 1) ≡ 2 * 2 ^ d
pow_more d = rw (add-one, pow-suc) (omega arith)

-- the leaves left of those below node k, seen from its children
pub pow-twice : (k d : ℕ) → k * 2 ^ suc d ≡ 2 * k * 2 ^ d
pow-twice k d = ap (λ (x : ℕ). k * x) (pow-suc 2 d) ∙ sym (mul_assoc k (2 ^ d) 2) ∙ mul_comm (k * 2 ^ d) 2 ∙ sym (mul_assoc 2 k (2 ^ d))

pub pow-next : (k d : ℕ) → (2 * k + 1) * 2 ^ d ≡ 2 * k * 2 ^ d + 2 ^ d
pow-next k d = add-mul (2 * k) 1 (2 ^ d) ∙ ap (λ (x : ℕ). 2 * k * 2 ^ d + x) (one-mul (2 ^ d))
