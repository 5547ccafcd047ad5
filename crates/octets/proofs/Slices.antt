-- Parts of a list taken one after the other, and past its end. Assumes nothing.
use mathlib.Core.Path.{◌≡◌, refl, sym, ap, ap₂, ◌∙◌}
use mathlib.Core.List.{List, [], ◌∷◌, ◌++◌}
use Prim.Native.Nat.{ℕ, zero, suc, ◌+◌, ◌*◌, ◌<◌, ◌≤◌, ◌-◌, ◌^◌}
use native.Mathlib.Nat.{mul-suc, add-zero, zero-add, zero-mul, suc-mul, mul_comm}
use native.Mathlib.Omega.{arith}
use lib.ListN.{length, take, length-take, drop_of_length-le, drop}
use Rattle.octets.specs.Lists.{vec, part, joined, tab}
use Rattle.octets.proofs.Part.{joined-suc}
use Rattle.octets.proofs.Frame.{part-add, part-is, part_none}
use lib.Seq.{take_all, take-nil, drop-drop, take-add, drop-cons, take_at}
use native.Mathlib.Numerals.{add-one}
use lib.Bits.{bit_xor, xor_block, xor_shifted}
use lib.Pow.{pow_pos}
use Rattle.octets.specs.Xor.{◌⊕◌}
use Rattle.octets.proofs.Tab.{length-tab, tab-append}

-- n parts of k elements each, known one by one
pub parts-joined : (a k n : ℕ) (f : ℕ → List ℕ) (l : List ℕ) → ((e : ℕ) → e < n → part (a + k * e) k l ≡ f e) → part a (k * n) l ≡ joined n f
parts-joined a k zero f l h = part_none a k f l
parts-joined a k (suc n) f l h =
    ap (λ (m : ℕ). part a m l) (mul-suc k n)
    ∙ part-add a (k * n) k l
    ∙ ap₂ ◌++◌ (parts-joined a k n f l (λ e he. h e (omega arith))) (h n (omega arith))
    ∙ sym (joined-suc n f)

pub part-one : (o : ℕ) (l : List ℕ) → o < length l → part o 1 l ≡ vec l o ∷ []
part-one o l h = part-is o 1 l (vec l o ∷ []) (omega arith) refl only
  where
    only : (i : ℕ) → i < 1 → vec l (o + i) ≡ vec (vec l o ∷ []) i
    only zero hi = ap (vec l) (add-zero o)
    only (suc i) hi = absurd (omega arith)

-- past the end there is nothing
pub part-past : (o n : ℕ) (l : List ℕ) → length l ≤ o → part o n l ≡ []
unfolding part
part-past o n l h = ap (take n) (drop_of_length-le l h) ∙ take-nil n

pub part-over : (n : ℕ) (l : List ℕ) → length l ≤ n → part 0 n l ≡ l
unfolding part
part-over n l h = take_all n l h

pub length-part-le : (o n : ℕ) (l : List ℕ) → length (part o n l) ≤ n
unfolding part
length-part-le o n l = simp length-take (omega arith)

pub part-zero : (o : ℕ) (l : List ℕ) → part o 0 l ≡ []
unfolding part
part-zero o l = refl

-- the parts of k bytes, laid end to end
pub joined-part : (n k : ℕ) (l : List ℕ) → joined n (λ e. part (k * e) k l) ≡ part 0 (n * k) l
unfolding joined
joined-part zero k l = sym (ap (λ (m : ℕ). part 0 m l) (zero-mul k) ∙ part-zero 0 l)
joined-part (suc n) k l =
    joined-suc n (λ e. part (k * e) k l)
    ∙ ap₂ (λ (a : List ℕ) (o : ℕ). a ++ part o k l) (joined-part n k l) (mul_comm k n ∙ sym (zero-add (n * k)))
    ∙ sym (part-add 0 (n * k) k l)
    ∙ ap (λ (m : ℕ). part 0 m l) (sym (suc-mul n k))

-- a shift up passes through a sum
pub ⊕-shl : (k a b : ℕ) → (a ⊕ b) * 2 ^ k ≡ (a * 2 ^ k) ⊕ (b * 2 ^ k)
unfolding ◌⊕◌
⊕-shl k a b =
    sym (add-zero (bit_xor a b * 2 ^ k)) ∙ sym (xor_block k a b 0 0 (pow_pos k) (pow_pos k))
    ∙ ap₂ bit_xor (add-zero (a * 2 ^ k)) (add-zero (b * 2 ^ k))

-- a sum of numbers with no digit in common
pub ⊕-disjoint : (k a b : ℕ) → b < 2 ^ k → (a * 2 ^ k) ⊕ b ≡ a * 2 ^ k + b
unfolding ◌⊕◌
⊕-disjoint k a b h = xor_shifted a k b h

pub part-append : (o k n : ℕ) (l : List ℕ) → part o k l ++ part (o + k) n l ≡ part o (k + n) l
unfolding part
part-append o k n l =
    ap (λ (d : List ℕ). take k (drop o l) ++ take n d) (sym (drop-drop k o l))
    ∙ sym (take-add k n (drop o l))

-- the first bytes of a list, and the part that follows
pub take_part : (k n : ℕ) (l : List ℕ) → take k l ++ part k n l ≡ take (k + n) l
unfolding part
take_part k n l = sym (take-add k n l)

-- a part of one byte more
pub part-cons : (o n : ℕ) (l : List ℕ) → o < length l → part o (suc n) l ≡ vec l o ∷ part (o + 1) n l
unfolding part
part-cons o n l h = ap (take (suc n)) (drop-cons l o 0 h) ∙ ap (λ (k : ℕ). vec l o ∷ take n (drop k l)) (sym (add-one o))

pub take-tab : (k n : ℕ) (f : ℕ → ℕ) → k ≤ n → take k (tab n f) ≡ tab k f
take-tab k n f h =
    ap (λ (m : ℕ). take k (tab m f)) split
    ∙ ap (take k) (tab-append k (n - k) f)
    ∙ take_at (tab k f) (tab (n - k) (λ i. f (k + i))) k (length-tab k f)
  where
    split : n ≡ k + (n - k)
    split = omega arith
