-- The laws of `◌⊕◌`, an abelian group in which each element is its own inverse, and of `xor_b`. Those of numbers hold of all numbers.
-- Assumes nothing.
use mathlib.Core.Path.{◌≡◌, refl, sym, ap, ap₂, ◌∙◌}
use mathlib.Core.List.{List, [], ◌∷◌, ◌++◌}
use Prim.Native.Nat.{ℕ, zero, suc, ◌+◌, ◌*◌, ◌/◌, ◌%◌, ◌^◌, ◌<◌}
use native.Mathlib.Nat.{mod-lt, zero-lt-suc, add-zero, zero-mul, one-mul, le_of_suc-le-suc, not-suc-le-zero}
use native.Mathlib.Omega.{arith}
use lib.Arith.{bin_ind, digits_mod}
use lib.Pow.{pow_pos, split}
use lib.Bits.{bit_xor, differ, xor_step, xor_comm, xor_self, xor_zero_r, xor_lt, xor_shr, xor_mod, xor_block, xor_shifted}
use lib.ListN.{length, replicate}
use Rattle.octets.specs.Xor.{◌⊕◌, xor_b}
use Rattle.octets.specs.Lists.{vec}

-- ---- a digit

differ-lt : (x y : ℕ) → x < 2 → y < 2 → differ x y < 2
differ-lt zero y hx hy = hy
differ-lt (suc zero) zero hx hy = hx
differ-lt (suc zero) (suc y) hx hy = omega arith
differ-lt (suc (suc x)) y hx hy = absurd (not-suc-le-zero (le_of_suc-le-suc (le_of_suc-le-suc hx)))

two_pos : zero < 2
two_pos = zero-lt-suc 1

differ-assoc : (x y z : ℕ) → x < 2 → y < 2 → z < 2 → differ (differ x y) z ≡ differ x (differ y z)
differ-assoc zero y z hx hy hz = refl
differ-assoc (suc zero) zero z hx hy hz = refl
differ-assoc (suc zero) (suc zero) zero hx hy hz = refl
differ-assoc (suc zero) (suc zero) (suc zero) hx hy hz = refl
differ-assoc (suc zero) (suc zero) (suc (suc z)) hx hy hz = absurd (not-suc-le-zero (le_of_suc-le-suc (le_of_suc-le-suc hz)))
differ-assoc (suc zero) (suc (suc y)) z hx hy hz = absurd (not-suc-le-zero (le_of_suc-le-suc (le_of_suc-le-suc hy)))
differ-assoc (suc (suc x)) y z hx hy hz = absurd (not-suc-le-zero (le_of_suc-le-suc (le_of_suc-le-suc hx)))

bit-lt : (a : ℕ) → a % 2 < 2
bit-lt a = mod-lt a two_pos

xor-bit : (a b : ℕ) → bit_xor a b % 2 ≡ differ (a % 2) (b % 2)
xor-bit a b =
    ap (λ (x : ℕ). x % 2) (xor_step a b)
    ∙ digits_mod (bit_xor (a / 2) (b / 2)) (differ-lt (a % 2) (b % 2) (bit-lt a) (bit-lt b))

xor-half : (a b : ℕ) → bit_xor a b / 2 ≡ bit_xor (a / 2) (b / 2)
xor-half a b = xor_shr a b 1

xor_assoc : (a b c : ℕ) → bit_xor (bit_xor a b) c ≡ bit_xor a (bit_xor b c)
xor_assoc a =
    bin_ind (λ (n : ℕ). (b c : ℕ) → bit_xor (bit_xor n b) c ≡ bit_xor n (bit_xor b c)) (λ b c. refl)
    (λ n ih b c.
    xor_step (bit_xor n b) c
    ∙ ap₂ (λ (x y : ℕ). bit_xor x (c / 2) * 2 + differ y (c % 2)) (xor-half n b) (xor-bit n b)
    ∙ ap₂ (λ (x y : ℕ). x * 2 + y) (ih (b / 2) (c / 2)) (differ-assoc (n % 2) (b % 2) (c % 2) (bit-lt n) (bit-lt b) (bit-lt c))
    ∙ ap₂ (λ (x y : ℕ). bit_xor (n / 2) x * 2 + differ (n % 2) y) (sym (xor-half b c)) (sym (xor-bit b c))
    ∙ sym (xor_step n (bit_xor b c)))
    a

-- ---- the group

pub ⊕-assoc : (a b c : ℕ) → (a ⊕ b) ⊕ c ≡ a ⊕ (b ⊕ c)
unfolding ◌⊕◌
⊕-assoc a b c = xor_assoc a b c

pub ⊕-comm : (a b : ℕ) → a ⊕ b ≡ b ⊕ a
unfolding ◌⊕◌
⊕-comm a b = xor_comm a b

pub ⊕-left-comm : (a b c : ℕ) → a ⊕ (b ⊕ c) ≡ b ⊕ (a ⊕ c)
⊕-left-comm a b c = sym (⊕-assoc a b c) ∙ ap (λ (x : ℕ). x ⊕ c) (⊕-comm a b) ∙ ⊕-assoc b a c

pub ⊕-zero-l : (a : ℕ) → 0 ⊕ a ≡ a
unfolding ◌⊕◌
⊕-zero-l a = refl

pub ⊕-zero-r : (a : ℕ) → a ⊕ 0 ≡ a
unfolding ◌⊕◌
⊕-zero-r a = xor_zero_r a

pub ⊕-self : (a : ℕ) → a ⊕ a ≡ 0
unfolding ◌⊕◌
⊕-self a = xor_self a

pub ⊕-cancel-self : (a b : ℕ) → a ⊕ (a ⊕ b) ≡ b
⊕-cancel-self a b = sym (⊕-assoc a a b) ∙ ap (λ (x : ℕ). x ⊕ b) (⊕-self a) ∙ ⊕-zero-l b

pub ⊕-lt : (k : ℕ) {a b : ℕ} → a < 2 ^ k → b < 2 ^ k → a ⊕ b < 2 ^ k
unfolding ◌⊕◌
⊕-lt k {a} {b} ha hb = xor_lt k a b ha hb

pub ⊕-byte : {a b : ℕ} → a < 256 → b < 256 → a ⊕ b < 256
⊕-byte ha hb = ⊕-lt 8 ha hb

-- two elements whose sum is 0 are equal
pub ⊕-eq : (a b : ℕ) → a ⊕ b ≡ 0 → a ≡ b
⊕-eq a b e = sym (⊕-zero-r a) ∙ ap (λ (x : ℕ). a ⊕ x) (sym e) ∙ ⊕-cancel-self a b

-- (a + b) + (c + d) = (a + c) + (b + d)
pub ⊕-swap : (a b c d : ℕ) → (a ⊕ b) ⊕ (c ⊕ d) ≡ (a ⊕ c) ⊕ (b ⊕ d)
⊕-swap a b c d = simp (⊕-assoc, ⊕-left-comm)

-- for `simp`: a sum in a fixed order, with no 0 in it and no pair of neighbours alike
pub ruleset ⊕·sort = (⊕-assoc, ⊕-comm, ⊕-left-comm, ⊕-zero-l, ⊕-zero-r, ⊕-self, ⊕-cancel-self)

-- ---- what passes through a sum: a shift up, a shift down, the low digits, a digit times a number

pub ⊕-double : (a b : ℕ) → (a ⊕ b) * 2 ≡ (a * 2) ⊕ (b * 2)
unfolding ◌⊕◌
⊕-double a b =
    sym (add-zero (bit_xor a b * 2)) ∙ sym (xor_block 1 a b 0 0 (pow_pos 1) (pow_pos 1))
    ∙ ap₂ bit_xor (add-zero (a * 2)) (add-zero (b * 2))

pub ⊕-shr : (k a b : ℕ) → (a ⊕ b) / 2 ^ k ≡ (a / 2 ^ k) ⊕ (b / 2 ^ k)
unfolding ◌⊕◌
⊕-shr k a b = xor_shr a b k

pub ⊕-mod : (k a b : ℕ) → (a ⊕ b) % 2 ^ k ≡ (a % 2 ^ k) ⊕ (b % 2 ^ k)
unfolding ◌⊕◌
⊕-mod k a b = xor_mod a b k

-- x and y are digits
bits-times : (x y c : ℕ) → x < 2 → y < 2 → (x ⊕ y) * c ≡ (x * c) ⊕ (y * c)
bits-times zero y c hx hy = ap (λ (n : ℕ). n * c) (⊕-zero-l y) ∙ sym (ap (λ (n : ℕ). n ⊕ (y * c)) (zero-mul c) ∙ ⊕-zero-l (y * c))
bits-times (suc zero) zero c hx hy =
    ap (λ (n : ℕ). n * c) (⊕-zero-r 1) ∙ sym (ap (λ (n : ℕ). (1 * c) ⊕ n) (zero-mul c) ∙ ⊕-zero-r (1 * c))
bits-times (suc zero) (suc zero) c hx hy = ap (λ (n : ℕ). n * c) (⊕-self 1) ∙ zero-mul c ∙ sym (⊕-self (1 * c))
bits-times (suc zero) (suc (suc y)) c hx hy = absurd (not-suc-le-zero (le_of_suc-le-suc (le_of_suc-le-suc hy)))
bits-times (suc (suc x)) y c hx hy = absurd (not-suc-le-zero (le_of_suc-le-suc (le_of_suc-le-suc hx)))

pub ⊕-bit-times : (a b c : ℕ) → (a ⊕ b) % 2 * c ≡ (a % 2 * c) ⊕ (b % 2 * c)
⊕-bit-times a b c = ap (λ (n : ℕ). n * c) (⊕-mod 1 a b) ∙ bits-times (a % 2) (b % 2) c (bit-lt a) (bit-lt b)

-- a digit times a sum
pub bit-times-⊕ : (n a b : ℕ) → n % 2 * (a ⊕ b) ≡ (n % 2 * a) ⊕ (n % 2 * b)
bit-times-⊕ n a b = go (n % 2) (bit-lt n)
  where
    go : (x : ℕ) → x < 2 → x * (a ⊕ b) ≡ (x * a) ⊕ (x * b)
    go zero h = simp (zero-mul, ⊕-zero-l)
    go (suc zero) h = simp one-mul
    go (suc (suc x)) h = absurd (not-suc-le-zero (le_of_suc-le-suc (le_of_suc-le-suc h)))

-- a number below 2 ^ (k + 1) is its digit k and the rest
pub ⊕-split : (k a : ℕ) → a ≡ (a / 2 ^ k * 2 ^ k) ⊕ (a % 2 ^ k)
unfolding ◌⊕◌
⊕-split k a = sym (split a k) ∙ sym (xor_shifted (a / 2 ^ k) k (a % 2 ^ k) (mod-lt a (pow_pos k)))

-- what the code's `a ^ b` is
pub xor-is-⊕ : (a b : ℕ) → bit_xor a b ≡ a ⊕ b
unfolding ◌⊕◌
xor-is-⊕ a b = refl

-- ---- lists

pub length-xor_b : (n : ℕ) (a b : List ℕ) → length a ≡ n → length b ≡ n → length (xor_b a b) ≡ n
unfolding xor_b
length-xor_b n [] b p q = p
length-xor_b n (x ∷ a) [] p q = q
length-xor_b zero (x ∷ a) (y ∷ b) p q = absurd (omega arith)
length-xor_b (suc n) (x ∷ a) (y ∷ b) p q = ap suc (length-xor_b n a b (omega arith) (omega arith))

pub vec-xor_b : (a b : List ℕ) (k : ℕ) → k < length a → k < length b → vec (xor_b a b) k ≡ vec a k ⊕ vec b k
unfolding xor_b
vec-xor_b [] b k p q = absurd (omega arith)
vec-xor_b (x ∷ a) [] k p q = absurd (omega arith)
vec-xor_b (x ∷ a) (y ∷ b) zero p q = refl
vec-xor_b (x ∷ a) (y ∷ b) (suc k) p q = vec-xor_b a b k (omega arith) (omega arith)

pub xor_b-assoc : (a b c : List ℕ) → xor_b (xor_b a b) c ≡ xor_b a (xor_b b c)
unfolding xor_b
xor_b-assoc [] b c = refl
xor_b-assoc (x ∷ a) [] c = refl
xor_b-assoc (x ∷ a) (y ∷ b) [] = refl
xor_b-assoc (x ∷ a) (y ∷ b) (z ∷ c) = ap₂ ◌∷◌ (⊕-assoc x y z) (xor_b-assoc a b c)

pub xor_b-comm : (a b : List ℕ) → xor_b a b ≡ xor_b b a
unfolding xor_b
xor_b-comm [] [] = refl
xor_b-comm [] (y ∷ b) = refl
xor_b-comm (x ∷ a) [] = refl
xor_b-comm (x ∷ a) (y ∷ b) = ap₂ ◌∷◌ (⊕-comm x y) (xor_b-comm a b)

pub xor_b-undo : (a b : List ℕ) → length a ≡ length b → xor_b a (xor_b a b) ≡ b
unfolding xor_b
xor_b-undo [] [] h = refl
xor_b-undo [] (y ∷ b) h = absurd (omega arith)
xor_b-undo (x ∷ a) [] h = refl
xor_b-undo (x ∷ a) (y ∷ b) h = ap₂ ◌∷◌ (⊕-cancel-self x y) (xor_b-undo a b (omega arith))

pub xor_b-zeros-l : (n : ℕ) (b : List ℕ) → length b ≡ n → xor_b (replicate n 0) b ≡ b
unfolding xor_b
xor_b-zeros-l zero [] h = refl
xor_b-zeros-l zero (y ∷ b) h = absurd (omega arith)
xor_b-zeros-l (suc n) [] h = absurd (omega arith)
xor_b-zeros-l (suc n) (y ∷ b) h = ap₂ ◌∷◌ (⊕-zero-l y) (xor_b-zeros-l n b (omega arith))

pub xor_b-zeros-r : (n : ℕ) (b : List ℕ) → length b ≡ n → xor_b b (replicate n 0) ≡ b
xor_b-zeros-r n b h = xor_b-comm b (replicate n 0) ∙ xor_b-zeros-l n b h

pub xor_b-append : (a b c d : List ℕ) → length a ≡ length c → xor_b (a ++ b) (c ++ d) ≡ xor_b a c ++ xor_b b d
unfolding xor_b
xor_b-append [] b [] d h = refl
xor_b-append [] b (y ∷ c) d h = absurd (omega arith)
xor_b-append (x ∷ a) b [] d h = absurd (omega arith)
xor_b-append (x ∷ a) b (y ∷ c) d h = ap (λ (l : List ℕ). (x ⊕ y) ∷ l) (xor_b-append a b c d (omega arith))
