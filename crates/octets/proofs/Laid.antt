-- Bytes laid into a buffer from its front, a part behind another. Assumes nothing.
use mathlib.Core.Path.{◌≡◌, refl, ap, ap₂, ◌∙◌, sym}
use mathlib.Core.List.{List, [], ◌∷◌, ◌++◌, append_assoc}
use Prim.Native.Nat.{ℕ, zero, suc, ◌+◌, ◌/◌, ◌%◌, ◌<◌, ◌≤◌}
use native.Mathlib.Numerals.{add-one, add-two, add-three, add-four}
use lib.ListN.{set, length, drop}
use Rattle.octets.specs.Lists.{joined, bytes_of, part}
use Rattle.octets.specs.Xor.{◌⊕◌, xor_b}
use Rattle.octets.specs.Place.{over, place}
use Rattle.octets.proofs.Xor.{⊕-mod, ⊕-shr}
use Rattle.octets.proofs.Part.{joined-suc, part-all}
use native.Mathlib.Omega.{arith}
use Rattle.octets.proofs.Place.{place-whole, length-place}
use native.Mathlib.Nat.{zero-add}
use Rattle.octets.proofs.Frame.{part-grows, part-place, part-after, part-add}

-- ---- a part placed

pub set-place : (a v : ℕ) (s : List ℕ) → set s a v ≡ place a (v ∷ []) s
unfolding place over
set-place zero v [] = refl
set-place zero v (c ∷ s) = refl
set-place (suc a) v [] = refl
set-place (suc a) v (c ∷ s) = ap (λ (l : List ℕ). c ∷ l) (set-place a v s)

-- ---- lists laid end to end

pub joined-four : (n : ℕ) (f : ℕ → List ℕ) → joined (n + 4) f ≡ joined n f ++ (f n ++ (f (n + 1) ++ (f (n + 2) ++ f (n + 3))))
joined-four n f = simp (add-one, add-two, add-three, add-four, joined-suc, append_assoc)

pub bytes_of-⊕ : (n a b : ℕ) → bytes_of n (a ⊕ b) ≡ xor_b (bytes_of n a) (bytes_of n b)
unfolding bytes_of xor_b
bytes_of-⊕ zero a b = refl
bytes_of-⊕ (suc n) a b = ap₂ ◌∷◌ (⊕-mod 8 a b) (ap (bytes_of n) (⊕-shr 8 a b) ∙ bytes_of-⊕ n (a / 256) (b / 256))

pub length-nil : (s : List ℕ) → length s ≡ 0 → s ≡ []
length-nil [] h = refl
length-nil (c ∷ s) h = absurd (omega arith)

from_place : (a : ℕ) (x s : List ℕ) → length s ≡ a + length x → drop a (place a x s) ≡ x
unfolding place
from_place zero x s h = place-whole x s (omega arith)
from_place (suc a) x [] h = absurd (omega arith)
from_place (suc a) x (c ∷ s) h = from_place a x s (omega arith)

-- what was written at the end of a buffer
pub drop-place : (a : ℕ) (x s : List ℕ) {t : List ℕ} → t ≡ place a x s → length s ≡ a + length x → drop a t ≡ x
drop-place a x s e h = ap (drop a) e ∙ from_place a x s h

-- four elements over a list of four
pub set-four : (s : List ℕ) (a b c d : ℕ) → length s ≡ 4 → set (set (set (set s 0 a) 1 b) 2 c) 3 d ≡ a ∷ b ∷ c ∷ d ∷ []
set-four [] a b c d h = absurd (omega arith)
set-four (x ∷ []) a b c d h = absurd (omega arith)
set-four (x ∷ y ∷ []) a b c d h = absurd (omega arith)
set-four (x ∷ y ∷ z ∷ []) a b c d h = absurd (omega arith)
set-four (x ∷ y ∷ z ∷ w ∷ []) a b c d h = refl
set-four (x ∷ y ∷ z ∷ w ∷ v ∷ s) a b c d h = absurd (omega arith)

-- the four bytes of a number, each by one quotient
pub bytes_of-four : (n : ℕ) → n % 256 ∷ n / 256 % 256 ∷ n / 65536 % 256 ∷ n / 16777216 % 256 ∷ [] ≡ bytes_of 4 n
unfolding bytes_of
bytes_of-four n = ap₂ (λ (x y : ℕ). n % 256 ∷ n / 256 % 256 ∷ x ∷ y ∷ []) two three
  where
    two : n / 65536 % 256 ≡ n / 256 / 256 % 256
    two = omega arith

    three : n / 16777216 % 256 ≡ n / 256 / 256 / 256 % 256
    three = omega arith

-- ---- a buffer that is written from its front on

-- its first element
pub front-set : (s : List ℕ) (v : ℕ) → 0 < length s → part 0 1 (set s 0 v) ≡ v ∷ []
unfolding part
front-set [] v h = absurd (omega arith)
front-set (x ∷ s) v h = refl

-- r fills the first m places: x behind it fills k of them
pub front-grows : (m n k : ℕ) (r x s : List ℕ) {t : List ℕ} → part 0 m s ≡ r → length x ≡ n → m + n ≡ k → k ≤ length s → t ≡ place m x s → part 0 k t ≡ r ++ x
front-grows m n k r x s e l h f w =
    ap (part 0 k) w ∙ ap₂ (λ (i j : ℕ). part 0 i (place j x s)) (sym h) (sym (zero-add m)) ∙ part-grows 0 m n r x s e l (omega arith)

-- x fills the rest
pub front_ends : (m n : ℕ) (r x s : List ℕ) {t : List ℕ} → part 0 m s ≡ r → length x ≡ n → m + n ≡ length s → t ≡ place m x s → t ≡ r ++ x
front_ends m n r x s {t} e l h w =
    sym (part-all (length s) t (ap length w ∙ length-place m x s)) ∙ front-grows m n (length s) r x s e l h (omega arith) w

pub part-headed : (a n v : ℕ) (s : List ℕ) → a + 1 + n ≤ length s → part a (1 + n) (place a (v ∷ []) s) ≡ v ∷ part (a + 1) n s
part-headed a n v s h =
    part-add a 1 n (place a (v ∷ []) s)
    ∙ ap₂ ◌++◌ (part-place a 1 (v ∷ []) s refl (omega arith)) (part-after (a + 1) n a (v ∷ []) s (omega arith) h)
