-- The laws of the product, for both fields at once: k is 7 or 3, `low` the polynomial less its leading term.
-- Assumes nothing.
use mathlib.Core.Path.{◌≡◌, refl, sym, ap, ap₂, ◌∙◌}
use mathlib.Core.Bool.{Bool}
use Prim.Native.Nat.{ℕ, zero, suc, ◌+◌, ◌*◌, ◌/◌, ◌%◌, ◌^◌, ◌<◌}
use native.Mathlib.Nat.{mod-lt, zero-lt-suc, zero-mul, one-mul, mod-mod, mod-eq_of_lt, pow-suc}
use native.Mathlib.Omega.{arith}
use lib.Pow.{pow_pos, mod-mod-pow, field}
use lib.Dec.{T}
use Rattle.octets.specs.Xor.{◌⊕◌}
use Rattle.field.specs.Gf.{times_root, shift_add, mul_in}
use Rattle.octets.proofs.Xor.{⊕-self, ⊕-zero-r, ⊕-swap, ⊕-lt, ⊕-double, ⊕-shr, ⊕-mod, ⊕-bit-times, bit-times-⊕}
use Rattle.field.proofs.Linear.{Additive, additive-zero, additive-bit, agree2, biadditive-agree}

-- ---- the root

module _ (k low : ℕ) where
  pub root-⊕ : (a b : ℕ) → times_root k low (a ⊕ b) ≡ times_root k low a ⊕ times_root k low b
  unfolding times_root
  root-⊕ a b =
      ap₂ ◌⊕◌
      (ap (λ (x : ℕ). x * 2) (⊕-mod k a b) ∙ ⊕-double (a % 2 ^ k) (b % 2 ^ k))
      (ap (λ (x : ℕ). x % 2 * low) (⊕-shr k a b) ∙ ⊕-bit-times (a / 2 ^ k) (b / 2 ^ k) low)
      ∙ ⊕-swap (a % 2 ^ k * 2) (b % 2 ^ k * 2) (a / 2 ^ k % 2 * low) (b / 2 ^ k % 2 * low)

  -- the root's product reads the k + 1 low digits
  pub root-mod : (a : ℕ) → times_root k low (a % 2 ^ suc k) ≡ times_root k low a
  unfolding times_root
  root-mod a =
      ap₂ (λ (x y : ℕ). (x * 2) ⊕ (y * low))
      (ap (λ (m : ℕ). a % 2 ^ m % 2 ^ k) one ∙ mod-mod-pow a 1 k)
      (ap (λ (m : ℕ). a % 2 ^ m / 2 ^ k % 2) one ∙ ap (λ (x : ℕ). x % 2) (field a 1 k) ∙ mod-mod (a / 2 ^ k) 2)
    where
      one : suc k ≡ 1 + k
      one = omega arith

-- ---- the sum over the digits

module _ (k low : ℕ) where
  pub shift_add-⊕-r : (n a b c : ℕ) → shift_add k low n a (b ⊕ c) ≡ shift_add k low n a b ⊕ shift_add k low n a c
  unfolding shift_add
  shift_add-⊕-r zero a b c = sym (⊕-self 0)
  shift_add-⊕-r (suc n) a b c =
      ap₂ ◌⊕◌
      (⊕-bit-times b c a)
      (ap (shift_add k low n (times_root k low a)) (⊕-shr 1 b c) ∙ shift_add-⊕-r n (times_root k low a) (b / 2) (c / 2))
      ∙ ⊕-swap (b % 2 * a) (c % 2 * a) (shift_add k low n (times_root k low a) (b / 2)) (shift_add k low n (times_root k low a) (c / 2))

  pub shift_add-⊕-l : (n a b c : ℕ) → shift_add k low n (a ⊕ b) c ≡ shift_add k low n a c ⊕ shift_add k low n b c
  unfolding shift_add
  shift_add-⊕-l zero a b c = sym (⊕-self 0)
  shift_add-⊕-l (suc n) a b c =
      ap₂ ◌⊕◌
      (bit-times-⊕ c a b)
      (ap (λ (x : ℕ). shift_add k low n x (c / 2)) (root-⊕ k low a b) ∙ shift_add-⊕-l n (times_root k low a) (times_root k low b) (c / 2))
      ∙ ⊕-swap (c % 2 * a) (c % 2 * b) (shift_add k low n (times_root k low a) (c / 2)) (shift_add k low n (times_root k low b) (c / 2))

  -- an additive f that commutes with the root commutes with the sum
  pub shift_add-through : (f : ℕ → ℕ) → Additive f → ((a : ℕ) → f (times_root k low a) ≡ times_root k low (f a))
      → (n a b : ℕ) → f (shift_add k low n a b) ≡ shift_add k low n (f a) b
  unfolding shift_add
  shift_add-through f hf hr zero a b = additive-zero f hf
  shift_add-through f hf hr (suc n) a b =
      hf (b % 2 * a) (shift_add k low n (times_root k low a) (b / 2))
      ∙ ap₂ ◌⊕◌
      (additive-bit f hf (b % 2) a (mod-lt b (zero-lt-suc 1)))
      (shift_add-through f hf hr n (times_root k low a) (b / 2) ∙ ap (λ (x : ℕ). shift_add k low n x (b / 2)) (hr a))

  pub shift_add-root : (n a b : ℕ) → shift_add k low n (times_root k low a) b ≡ times_root k low (shift_add k low n a b)
  shift_add-root n a b = sym (shift_add-through (times_root k low) (root-⊕ k low) (λ x. refl) n a b)

  -- the sum over n digits of b reads the n low digits
  pub shift_add-mod : (n a b : ℕ) → shift_add k low n a (b % 2 ^ n) ≡ shift_add k low n a b
  unfolding shift_add
  shift_add-mod zero a b = refl
  shift_add-mod (suc n) a b =
      ap₂ (λ (x y : ℕ). (x * a) ⊕ shift_add k low n (times_root k low a) y)
      (ap (λ (m : ℕ). b % 2 ^ m % 2) more ∙ mod-mod-pow b n 1)
      (ap (λ (m : ℕ). b % 2 ^ m / 2) more ∙ field b n 1)
      ∙ ap (λ (y : ℕ). (b % 2 * a) ⊕ y) (shift_add-mod n (times_root k low a) (b / 2))
    where
      more : suc n ≡ n + 1
      more = omega arith

-- ---- the product, where the computed test passes

module _ (k low : ℕ) where
  abbrev pub commutes : Bool
  commutes = agree2 (mul_in k low) (λ a b. mul_in k low b a) (suc k) (suc k)

  pub mul-⊕-l : (a b c : ℕ) → mul_in k low (a ⊕ b) c ≡ mul_in k low a c ⊕ mul_in k low b c
  unfolding mul_in
  mul-⊕-l a b c =
      ap (λ (x : ℕ). shift_add k low (suc k) x c) (⊕-mod (suc k) a b) ∙ shift_add-⊕-l k low (suc k) (a % 2 ^ suc k) (b % 2 ^ suc k) c

  pub mul-⊕-r : (a b c : ℕ) → mul_in k low a (b ⊕ c) ≡ mul_in k low a b ⊕ mul_in k low a c
  unfolding mul_in
  mul-⊕-r a b c = shift_add-⊕-r k low (suc k) (a % 2 ^ suc k) b c

  pub mul-mod-l : (a b : ℕ) → mul_in k low (a % 2 ^ suc k) b ≡ mul_in k low a b
  unfolding mul_in
  mul-mod-l a b = ap (λ (x : ℕ). shift_add k low (suc k) x b) (mod-mod a (2 ^ suc k))

  pub mul-mod-r : (a b : ℕ) → mul_in k low a (b % 2 ^ suc k) ≡ mul_in k low a b
  unfolding mul_in
  mul-mod-r a b = shift_add-mod k low (suc k) (a % 2 ^ suc k) b

module _ (k low : ℕ) (small : low < 2 ^ suc k) where
  pub digit-times-lt : (x a : ℕ) → x < 2 → a < 2 ^ suc k → x * a < 2 ^ suc k
  digit-times-lt zero a hx ha = rw zero-mul (pow_pos (suc k))
  digit-times-lt (suc zero) a hx ha = rw one-mul ha
  digit-times-lt (suc (suc x)) a hx ha = absurd (omega arith)

  pub root-lt : (a : ℕ) → times_root k low a < 2 ^ suc k
  unfolding times_root
  root-lt a = ⊕-lt (suc k) (omega (arith, mod-lt a (pow_pos k), pow-suc 2 k)) (digit-times-lt (a / 2 ^ k % 2) low (mod-lt (a / 2 ^ k) (zero-lt-suc 1)) small)

  pub shift_add-lt : (n a b : ℕ) → a < 2 ^ suc k → shift_add k low n a b < 2 ^ suc k
  unfolding shift_add
  shift_add-lt zero a b h = pow_pos (suc k)
  shift_add-lt (suc n) a b h =
      ⊕-lt (suc k) (digit-times-lt (b % 2) a (mod-lt b (zero-lt-suc 1)) h) (shift_add-lt n (times_root k low a) (b / 2) (root-lt a))

  pub mul-lt : (a b : ℕ) → mul_in k low a b < 2 ^ suc k
  unfolding mul_in
  mul-lt a b = shift_add-lt (suc k) (a % 2 ^ suc k) b (mod-lt a (pow_pos (suc k)))

module _ (k low : ℕ) (small : low < 2 ^ suc k) (test : T (commutes k low)) where
  low-comm : (a b : ℕ) → a < 2 ^ suc k → b < 2 ^ suc k → mul_in k low a b ≡ mul_in k low b a
  low-comm a b ha hb =
      biadditive-agree (mul_in k low) (λ x y. mul_in k low y x)
      (λ y. λ p q. mul-⊕-l k low p q y) (mul-⊕-r k low) (mul-⊕-r k low) (λ x. λ p q. mul-⊕-l k low p q x) (suc k) (suc k) test a b ha hb

  pub mul_comm : (a b : ℕ) → mul_in k low a b ≡ mul_in k low b a
  mul_comm a b =
      sym (mul-mod-l k low a b) ∙ sym (mul-mod-r k low (a % 2 ^ suc k) b)
      ∙ low-comm (a % 2 ^ suc k) (b % 2 ^ suc k) (mod-lt a (pow_pos (suc k))) (mod-lt b (pow_pos (suc k)))
      ∙ mul-mod-l k low b (a % 2 ^ suc k) ∙ mul-mod-r k low b a

  mul-root-l : (a b : ℕ) → mul_in k low (times_root k low a) b ≡ times_root k low (mul_in k low a b)
  unfolding mul_in
  mul-root-l a b =
      ap (λ (x : ℕ). shift_add k low (suc k) x b) (mod-eq_of_lt (root-lt k low small a) ∙ sym (root-mod k low a))
      ∙ shift_add-root k low (suc k) (a % 2 ^ suc k) b

  pub mul-root-r : (a b : ℕ) → mul_in k low a (times_root k low b) ≡ times_root k low (mul_in k low a b)
  mul-root-r a b = mul_comm a (times_root k low b) ∙ mul-root-l b a ∙ ap (times_root k low) (mul_comm b a)

  pub mul_assoc : (a b c : ℕ) → mul_in k low (mul_in k low a b) c ≡ mul_in k low a (mul_in k low b c)
  mul_assoc a b c = sym (through ∙ ap (λ (x : ℕ). shift_add k low (suc k) x c) (mul-mod-r k low a b) ∙ back)
    where
      through : mul_in k low a (mul_in k low b c) ≡ shift_add k low (suc k) (mul_in k low a (b % 2 ^ suc k)) c
      through = unfold mul_in in shift_add-through k low (mul_in k low a) (mul-⊕-r k low a) (mul-root-r a) (suc k) (b % 2 ^ suc k) c

      back : shift_add k low (suc k) (mul_in k low a b) c ≡ mul_in k low (mul_in k low a b) c
      back = unfold mul_in in ap (λ (x : ℕ). shift_add k low (suc k) x c) (sym (mod-eq_of_lt (mul-lt k low small a b)))

module _ (k low : ℕ) where
  pub mul-zero-l : (b : ℕ) → mul_in k low 0 b ≡ 0
  mul-zero-l b = additive-zero (λ x. mul_in k low x b) (λ x y. mul-⊕-l k low x y b)

  pub mul-zero-r : (a : ℕ) → mul_in k low a 0 ≡ 0
  mul-zero-r a = additive-zero (mul_in k low a) (mul-⊕-r k low a)

  -- 1 is neutral, for what has no digit past k
  pub mul-one-r : (a : ℕ) → mul_in k low a 1 ≡ a % 2 ^ suc k
  unfolding mul_in shift_add
  mul-one-r a =
      ap₂ ◌⊕◌ (one-mul (a % 2 ^ suc k))
      (additive-zero (shift_add k low k (times_root k low (a % 2 ^ suc k))) (shift_add-⊕-r k low k (times_root k low (a % 2 ^ suc k))))
      ∙ ⊕-zero-r (a % 2 ^ suc k)
