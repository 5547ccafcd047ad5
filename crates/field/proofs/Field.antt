-- The laws of the products of K and F, the ring rules for `simp`, and the laws of the morphism from F to K. All but those of 1 and
-- `lift-injective` hold of all numbers. Assumes nothing.
use mathlib.Core.Path.{◌≡◌, refl, sym, ap, ap₂, ◌∙◌, subst}
use mathlib.Core.Bool.{Bool, true, false}
use Prim.Native.Nat.{ℕ, ◌+◌, ◌*◌, ◌/◌, ◌%◌, ◌^◌, ◌<◌}
use native.Mathlib.Nat.{mod-lt, zero-lt-suc, mod-eq_of_lt}
use lib.Pow.{pow_pos, mod-mod-pow, field}
use lib.Dec.{T, eqb, eqb→eq, lit<}
use Rattle.octets.specs.Xor.{◌⊕◌}
use Rattle.field.specs.Gf.{times_root, shift_add, mul_in, ◌⊗◌, fmul, rho_in_k, lift}
use Rattle.octets.proofs.Xor.{⊕-self, ⊕-eq, ⊕-lt, ⊕-shr, ⊕-bit-times, ⊕·sort}
use Rattle.field.proofs.Linear.{Additive, additive-⊕, additive-zero, below, below_at, agree2, biadditive-agree}
use Rattle.field.proofs.Product as product

-- ---- K

k-commutes : T (product.commutes 7 0x1b)
unfolding mul_in shift_add times_root ◌⊕◌
k-commutes = tt

k-small : 0x1b < 2 ^ 8
k-small = lit< tt

pub ⊗-⊕-l : (a b c : ℕ) → (a ⊕ b) ⊗ c ≡ (a ⊗ c) ⊕ (b ⊗ c)
unfolding ◌⊗◌
⊗-⊕-l a b c = product.mul-⊕-l 7 0x1b a b c

pub ⊗-⊕-r : (a b c : ℕ) → a ⊗ (b ⊕ c) ≡ (a ⊗ b) ⊕ (a ⊗ c)
unfolding ◌⊗◌
⊗-⊕-r a b c = product.mul-⊕-r 7 0x1b a b c

pub ⊗-comm : (a b : ℕ) → a ⊗ b ≡ b ⊗ a
unfolding ◌⊗◌
⊗-comm a b = product.mul_comm 7 0x1b k-small k-commutes a b

pub ⊗-assoc : (a b c : ℕ) → (a ⊗ b) ⊗ c ≡ a ⊗ (b ⊗ c)
unfolding ◌⊗◌
⊗-assoc a b c = product.mul_assoc 7 0x1b k-small k-commutes a b c

pub ⊗-lt : (a b : ℕ) → a ⊗ b < 256
unfolding ◌⊗◌
⊗-lt a b = product.mul-lt 7 0x1b k-small a b

pub ⊗-mod-l : (a b : ℕ) → (a % 256) ⊗ b ≡ a ⊗ b
unfolding ◌⊗◌
⊗-mod-l a b = product.mul-mod-l 7 0x1b a b

pub ⊗-mod-r : (a b : ℕ) → a ⊗ (b % 256) ≡ a ⊗ b
unfolding ◌⊗◌
⊗-mod-r a b = product.mul-mod-r 7 0x1b a b

pub ⊗-zero-l : (a : ℕ) → 0 ⊗ a ≡ 0
unfolding ◌⊗◌
⊗-zero-l a = product.mul-zero-l 7 0x1b a

pub ⊗-zero-r : (a : ℕ) → a ⊗ 0 ≡ 0
unfolding ◌⊗◌
⊗-zero-r a = product.mul-zero-r 7 0x1b a

pub ⊗-one-r : (a : ℕ) → a < 256 → a ⊗ 1 ≡ a
unfolding ◌⊗◌
⊗-one-r a h = product.mul-one-r 7 0x1b a ∙ mod-eq_of_lt h

pub ⊗-one-l : (a : ℕ) → a < 256 → 1 ⊗ a ≡ a
⊗-one-l a h = ⊗-comm 1 a ∙ ⊗-one-r a h

pub ⊗-left-comm : (a b c : ℕ) → a ⊗ (b ⊗ c) ≡ b ⊗ (a ⊗ c)
⊗-left-comm a b c = sym (⊗-assoc a b c) ∙ ap (λ (x : ℕ). x ⊗ c) (⊗-comm a b) ∙ ⊗-assoc b a c

-- for `simp`: an element of K as a sum of products, in a fixed order, with no term twice
pub ruleset K·ring = (⊗-⊕-l, ⊗-⊕-r, ⊗-assoc, ⊗-comm, ⊗-left-comm, ⊗-zero-l, ⊗-zero-r, ⊕·sort)

-- ξ, the polynomial's root, is 2
root-one : times_root 7 0x1b 1 ≡ 2
unfolding times_root ◌⊕◌
root-one = refl

pub times-root : (a : ℕ) → times_root 7 0x1b a ≡ 2 ⊗ a
unfolding ◌⊗◌
times-root a =
    sym (product.root-mod 7 0x1b a) ∙ ap (times_root 7 0x1b) (sym (product.mul-one-r 7 0x1b a))
    ∙ sym (product.mul-root-r 7 0x1b k-small k-commutes a 1) ∙ ap (mul_in 7 0x1b a) root-one ∙ ⊗-comm a 2

-- ---- F

f-commutes : T (product.commutes 3 0x3)
unfolding mul_in shift_add times_root ◌⊕◌
f-commutes = tt

f-small : 0x3 < 2 ^ 4
f-small = lit< tt

pub fmul-⊕-l : (a b c : ℕ) → fmul (a ⊕ b) c ≡ fmul a c ⊕ fmul b c
unfolding fmul
fmul-⊕-l a b c = product.mul-⊕-l 3 0x3 a b c

pub fmul-⊕-r : (a b c : ℕ) → fmul a (b ⊕ c) ≡ fmul a b ⊕ fmul a c
unfolding fmul
fmul-⊕-r a b c = product.mul-⊕-r 3 0x3 a b c

pub fmul-comm : (a b : ℕ) → fmul a b ≡ fmul b a
unfolding fmul
fmul-comm a b = product.mul_comm 3 0x3 f-small f-commutes a b

pub fmul-assoc : (a b c : ℕ) → fmul (fmul a b) c ≡ fmul a (fmul b c)
unfolding fmul
fmul-assoc a b c = product.mul_assoc 3 0x3 f-small f-commutes a b c

pub fmul-lt : (a b : ℕ) → fmul a b < 16
unfolding fmul
fmul-lt a b = product.mul-lt 3 0x3 f-small a b

pub fmul-mod-l : (a b : ℕ) → fmul (a % 16) b ≡ fmul a b
unfolding fmul
fmul-mod-l a b = product.mul-mod-l 3 0x3 a b

pub fmul-mod-r : (a b : ℕ) → fmul a (b % 16) ≡ fmul a b
unfolding fmul
fmul-mod-r a b = product.mul-mod-r 3 0x3 a b

pub fmul-one-r : (a : ℕ) → a < 16 → fmul a 1 ≡ a
unfolding fmul
fmul-one-r a h = product.mul-one-r 3 0x3 a ∙ mod-eq_of_lt h

-- ---- the morphism

digit-⊕ : (i c : ℕ) → Additive (λ a. a / 2 ^ i % 2 * c)
digit-⊕ i c a b = ap (λ (x : ℕ). x % 2 * c) (⊕-shr i a b) ∙ ⊕-bit-times (a / 2 ^ i) (b / 2 ^ i) c

pub lift-⊕ : (a b : ℕ) → lift (a ⊕ b) ≡ lift a ⊕ lift b
unfolding lift
lift-⊕ =
    additive-⊕ _ _
    (additive-⊕ _ _ (additive-⊕ _ _ (λ a b. ⊕-bit-times a b 1) (digit-⊕ 1 rho_in_k)) (digit-⊕ 2 (rho_in_k ⊗ rho_in_k)))
    (digit-⊕ 3 (rho_in_k ⊗ (rho_in_k ⊗ rho_in_k)))

-- digit i of the j + 1 + i low digits
digit-mod : (a j i : ℕ) → a % 2 ^ (j + 1 + i) / 2 ^ i % 2 ≡ a / 2 ^ i % 2
digit-mod a j i = ap (λ (x : ℕ). x % 2) (field a (j + 1) i) ∙ mod-mod-pow (a / 2 ^ i) j 1

pub lift-mod : (a : ℕ) → lift (a % 16) ≡ lift a
unfolding lift
lift-mod a =
    ap₂ ◌⊕◌
    (ap₂ ◌⊕◌
    (ap₂ ◌⊕◌ (ap (λ (x : ℕ). x * 1) (mod-mod-pow a 3 1)) (ap (λ (x : ℕ). x * rho_in_k) (digit-mod a 2 1)))
    (ap (λ (x : ℕ). x * (rho_in_k ⊗ rho_in_k)) (digit-mod a 1 2)))
    (ap (λ (x : ℕ). x * (rho_in_k ⊗ (rho_in_k ⊗ rho_in_k))) (digit-mod a 0 3))

lift-multiplies : T (agree2 (λ a b. lift (fmul a b)) (λ a b. lift a ⊗ lift b) 4 4)
unfolding lift rho_in_k fmul ◌⊗◌ mul_in shift_add times_root ◌⊕◌
lift-multiplies = tt

low-lift-mul : (a b : ℕ) → a < 16 → b < 16 → lift (fmul a b) ≡ lift a ⊗ lift b
low-lift-mul =
    biadditive-agree (λ a b. lift (fmul a b)) (λ a b. lift a ⊗ lift b)
    (λ b x y. ap lift (fmul-⊕-l x y b) ∙ lift-⊕ (fmul x b) (fmul y b))
    (λ a x y. ap lift (fmul-⊕-r a x y) ∙ lift-⊕ (fmul a x) (fmul a y))
    (λ b x y. ap (λ (z : ℕ). z ⊗ lift b) (lift-⊕ x y) ∙ ⊗-⊕-l (lift x) (lift y) (lift b))
    (λ a x y. ap (lift a ⊗◌) (lift-⊕ x y) ∙ ⊗-⊕-r (lift a) (lift x) (lift y))
    4 4 lift-multiplies

pub lift-mul : (a b : ℕ) → lift (fmul a b) ≡ lift a ⊗ lift b
lift-mul a b =
    sym (ap lift (fmul-mod-l a (b % 16) ∙ fmul-mod-r a b))
    ∙ low-lift-mul (a % 16) (b % 16) (mod-lt a (pow_pos 4)) (mod-lt b (pow_pos 4))
    ∙ ap₂ ◌⊗◌ (lift-mod a) (lift-mod b)

pub lift-zero : lift 0 ≡ 0
lift-zero = additive-zero lift lift-⊕

pub lift-one : lift 1 ≡ 1
unfolding lift rho_in_k ◌⊗◌ mul_in shift_add times_root ◌⊕◌
lift-one = refl

pub lift-lt : (a : ℕ) → lift a < 256
unfolding lift
lift-lt a =
    ⊕-lt 8 (⊕-lt 8 (⊕-lt 8 (bit-times-lt a 1 (lit< tt)) (bit-times-lt (a / 2 ^ 1) rho_in_k rho-lt)) (bit-times-lt (a / 2 ^ 2) _ (⊗-lt _ _)))
    (bit-times-lt (a / 2 ^ 3) _ (⊗-lt _ _))
  where
    rho-lt : rho_in_k < 2 ^ 8
    rho-lt = unfold rho_in_k in lit< tt

    bit-times-lt : (n c : ℕ) → c < 2 ^ 8 → n % 2 * c < 2 ^ 8
    bit-times-lt n c h = product.digit-times-lt 7 0x1b k-small (n % 2) c (mod-lt n (zero-lt-suc 1)) h

abbrev imp : Bool → Bool → Bool
imp true b = b
imp false b = true

-- no element of F but 0 goes to 0
lift-kernel : T (below 16 (λ z. imp (eqb (lift z) 0) (eqb z 0)))
unfolding lift rho_in_k ◌⊗◌ mul_in shift_add times_root ◌⊕◌
lift-kernel = tt

pub lift-injective : (a b : ℕ) → a < 16 → b < 16 → lift a ≡ lift b → a ≡ b
lift-injective a b ha hb e = ⊕-eq a b (eqb→eq (a ⊕ b) 0 passes)
  where
    gone : lift (a ⊕ b) ≡ 0
    gone = lift-⊕ a b ∙ ap (λ (x : ℕ). x ⊕ lift b) e ∙ ⊕-self (lift b)

    passes : T (eqb (a ⊕ b) 0)
    passes =
        subst (λ (x : ℕ). T (imp (eqb x 0) (eqb (a ⊕ b) 0))) gone
        (below_at 16 (λ z. imp (eqb (lift z) 0) (eqb z 0)) lift-kernel (a ⊕ b) (⊕-lt 4 ha hb))
