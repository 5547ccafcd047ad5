-- A product as a sum over the digits of one factor: the laws of `times_power`, `mask_of` and `folded`. Assumes nothing.
use mathlib.Core.Path.{◌≡◌, refl, sym, ap, ap₂, ◌∙◌}
use mathlib.Core.List.{List}
use Prim.Native.Nat.{ℕ, zero, suc, ◌+◌, ◌*◌, ◌/◌, ◌%◌, ◌^◌, ◌<◌}
use native.Mathlib.Nat.{mod-lt, zero-lt-suc, zero-mul, one-mul, mod-eq_of_lt}
use native.Mathlib.Numerals.{add-one}
use native.Mathlib.Omega.{arith}
use lib.Pow.{shr-shr}
use lib.Bits.{bit_and, and_mask, and_zero_l, and_comm}
use lib.Dec.{lit<}
use Rattle.octets.specs.Xor.{◌⊕◌}
use Rattle.octets.specs.Lists.{view}
use Rattle.field.specs.Gf.{◌⊗◌, mul_in, shift_add, times_root}
use Rattle.field.specs.Vec.{sum}
use Rattle.field.proofs.Linear.{Additive, additive-bit}
use Rattle.field.proofs.Product.{root-⊕, root-lt, root-mod}
use Rattle.field.proofs.Sum.{sum-ext}
use Rattle.paper.proofs.Trees.{sum-front}
use Rattle.equations.specs.Lanes.{mask_of, Masks, times_power}

-- ---- powers of ξ

pub power_zero : (x : ℕ) → times_power 0 x ≡ x
unfolding times_power
power_zero x = refl

pub power-suc : (b x : ℕ) → times_root 7 0x1b (times_power b x) ≡ times_power (b + 1) x
unfolding times_power
power-suc b x = ap (λ (n : ℕ). times_power n x) (sym (add-one b))

pub power-⊕ : (b : ℕ) → Additive (times_power b)
unfolding times_power
power-⊕ zero x y = refl
power-⊕ (suc b) x y = ap (times_root 7 0x1b) (power-⊕ b x y) ∙ root-⊕ 7 0x1b (times_power b x) (times_power b y)

pub power-root : (b x : ℕ) → times_power b (times_root 7 0x1b x) ≡ times_power (suc b) x
unfolding times_power
power-root zero x = refl
power-root (suc b) x = ap (times_root 7 0x1b) (power-root b x)

-- a power's product reads the eight low digits
pub power-mod : (b x : ℕ) → times_power b x % 256 ≡ times_power b (x % 256)
unfolding times_power
power-mod zero x = refl
power-mod (suc b) x =
    mod-eq_of_lt (root-lt 7 0x1b (lit< tt) (times_power b x)) ∙ sym (power-root b x)
    ∙ ap (times_power b) (sym (root-mod 7 0x1b x)) ∙ power-root b (x % 256)

-- ---- a product by the digits of its second factor

shift_add-sum : (n a v : ℕ) → shift_add 7 0x1b n a v ≡ sum n (λ b. v / 2 ^ b % 2 * times_power b a)
unfolding shift_add sum times_power
shift_add-sum zero a v = refl
shift_add-sum (suc n) a v =
    ap₂ ◌⊕◌ (ap (λ (x : ℕ). x % 2 * a) whole)
    (shift_add-sum n (times_root 7 0x1b a) (v / 2)
    ∙ sum-ext n _ _ (λ b h. ap₂ (λ (x y : ℕ). x % 2 * y) (shr-shr v 1 b ∙ ap (λ (k : ℕ). v / 2 ^ k) (more b)) (power-root b a)))
    ∙ sym (sum-front n (λ b. v / 2 ^ b % 2 * times_power b a))
  where
    whole : v ≡ v / 2 ^ 0
    whole = omega arith

    more : (b : ℕ) → 1 + b ≡ suc b
    more b = omega arith

by_digits : (c v : ℕ) → sum 8 (λ b. v / 2 ^ b % 2 * times_power b (c % 256)) ≡ c ⊗ v
unfolding ◌⊗◌ mul_in
by_digits c v = sym (shift_add-sum 8 (c % 256) v)

-- ---- a byte under a mask

digit_lt : (v b : ℕ) → v / 2 ^ b % 2 < 2
digit_lt v b = mod-lt (v / 2 ^ b) (zero-lt-suc 1)

under : (d c : ℕ) → d < 2 → bit_and (d * 255) c ≡ d * (c % 256)
under zero c h = and_zero_l c ∙ sym (zero-mul (c % 256))
under (suc zero) c h = and_comm 255 c ∙ and_mask c 8 ∙ sym (one-mul (c % 256))
under (suc (suc d)) c h = absurd (omega arith)

mask-under : (v b c : ℕ) → bit_and (mask_of v b) c ≡ v / 2 ^ b % 2 * (c % 256)
unfolding mask_of
mask-under v b c = under (v / 2 ^ b % 2) c (digit_lt v b)

module _ (m : List ℕ) (v : ℕ → ℕ → ℕ) (h : Masks m v) (k l : ℕ) (hk : k < 57) (hl : l < 24) where
  -- c under the masks of vector k, folded
  pub masked-fold : (c : ℕ) → sum 8 (λ b. times_power b (bit_and (view m (192 * k) (24 * b + l)) c)) ≡ c ⊗ v k l
  masked-fold c =
      sum-ext 8 _ _
      (λ b hb.
      ap (λ (x : ℕ). times_power b (bit_and x c)) (h.at k b l hk hb hl) ∙ ap (times_power b) (mask-under (v k l) b c)
      ∙ additive-bit (times_power b) (power-⊕ b) (v k l / 2 ^ b % 2) (c % 256) (digit_lt (v k l) b))
      ∙ by_digits c (v k l)

  -- the multiples of t by the powers of ξ, each under a mask
  pub masked-product : (t : ℕ) → sum 8 (λ b. bit_and (times_power b t) (view m (192 * k) (24 * b + l))) ≡ t ⊗ v k l
  masked-product t =
      sum-ext 8 _ _
      (λ b hb.
      ap (bit_and (times_power b t)) (h.at k b l hk hb hl) ∙ and_comm (times_power b t) (mask_of (v k l) b)
      ∙ mask-under (v k l) b (times_power b t) ∙ ap (λ (x : ℕ). v k l / 2 ^ b % 2 * x) (power-mod b t))
      ∙ by_digits t (v k l)
