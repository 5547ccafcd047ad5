-- What a part of a buffer holds after another part was written: `part` of `place`. Assumes nothing.
use mathlib.Core.Path.{◌≡◌, refl, sym, ap, ap₂, ◌∙◌}
use mathlib.Core.List.{List, [], ◌∷◌, ◌++◌}
use Prim.Native.Nat.{ℕ, zero, suc, ◌+◌, ◌*◌, ◌<◌, ◌≤◌}
use native.Mathlib.Omega.{arith}
use native.Mathlib.Nat.{mul-suc, mul-zero}
use native.Mathlib.Numerals.{add-one}
use lib.ListN.{length, take, drop}
use lib.Seq.{ext_get_or, take-add, drop-drop}
use Rattle.octets.specs.Lists.{vec, part, joined}
use Rattle.octets.specs.Place.{over, place}
use Rattle.octets.proofs.Part.{length_part, vec-part, joined-suc, part-joined}
use Rattle.octets.proofs.Place.{length-place}

-- ---- element by element

vec-over : (x s : List ℕ) (i : ℕ) → i < length x → i < length s → vec (over x s) i ≡ vec x i
unfolding over
vec-over [] s i h k = absurd (omega arith)
vec-over (x ∷ xs) [] i h k = absurd (omega arith)
vec-over (x ∷ xs) (c ∷ s) zero h k = refl
vec-over (x ∷ xs) (c ∷ s) (suc i) h k = vec-over xs s i (omega arith) (omega arith)

vec-past : (x s : List ℕ) (i : ℕ) → length x ≤ i → vec (over x s) i ≡ vec s i
unfolding over
vec-past [] s i h = refl
vec-past (x ∷ xs) [] i h = refl
vec-past (x ∷ xs) (c ∷ s) zero h = absurd (omega arith)
vec-past (x ∷ xs) (c ∷ s) (suc i) h = vec-past xs s i (omega arith)

-- inside the part that was written
pub vec-place : (a : ℕ) (x s : List ℕ) (i : ℕ) → i < length x → a + i < length s → vec (place a x s) (a + i) ≡ vec x i
unfolding place
vec-place zero x s i h k = ap (vec (over x s)) same ∙ vec-over x s i h (omega arith)
  where
    same : 0 + i ≡ i
    same = omega arith
vec-place (suc a) x [] i h k = absurd (omega arith)
vec-place (suc a) x (c ∷ s) i h k = ap (vec (c ∷ place a x s)) same ∙ vec-place a x s i h (omega arith)
  where
    same : suc a + i ≡ suc (a + i)
    same = omega arith

-- before it and after it
pub vec-place-before : (a : ℕ) (x s : List ℕ) (i : ℕ) → i < a → vec (place a x s) i ≡ vec s i
unfolding place
vec-place-before zero x s i h = absurd (omega arith)
vec-place-before (suc a) x [] i h = refl
vec-place-before (suc a) x (c ∷ s) zero h = refl
vec-place-before (suc a) x (c ∷ s) (suc i) h = vec-place-before a x s i (omega arith)

pub vec-place-after : (a : ℕ) (x s : List ℕ) (i : ℕ) → a + length x ≤ i → vec (place a x s) i ≡ vec s i
unfolding place
vec-place-after zero x s i h = vec-past x s i (omega arith)
vec-place-after (suc a) x [] i h = refl
vec-place-after (suc a) x (c ∷ s) zero h = absurd (omega arith)
vec-place-after (suc a) x (c ∷ s) (suc i) h = vec-place-after a x s i (omega arith)

-- ---- part by part

-- two parts are equal where their elements are
pub part_ext : (a b n : ℕ) (s t : List ℕ) → a + n ≤ length s → b + n ≤ length t → ((i : ℕ) → i < n → vec s (a + i) ≡ vec t (b + i)) → part a n s ≡ part b n t
part_ext a b n s t hs ht h =
    ext_get_or 0 (part a n s) (part b n t) (length_part a n s hs ∙ sym (length_part b n t ht))
    (λ i hi. let small : i < n = omega (arith, length_part a n s hs) in vec-part a n s i small ∙ h i small ∙ sym (vec-part b n t i small))

pub part-is : (a n : ℕ) (s x : List ℕ) → a + n ≤ length s → length x ≡ n → ((i : ℕ) → i < n → vec s (a + i) ≡ vec x i) → part a n s ≡ x
part-is a n s x hs hx h =
    ext_get_or 0 (part a n s) x (length_part a n s hs ∙ sym hx)
    (λ i hi. let small : i < n = omega (arith, length_part a n s hs) in vec-part a n s i small ∙ h i small)

-- what was written
pub part-place : (a n : ℕ) (x s : List ℕ) → length x ≡ n → a + n ≤ length s → part a n (place a x s) ≡ x
part-place a n x s hx hs = part-is a n (place a x s) x (omega (arith, length-place a x s)) hx (λ i hi. vec-place a x s i (omega arith) (omega arith))

-- what was not
pub part-before : (a n b : ℕ) (x s : List ℕ) → a + n ≤ b → a + n ≤ length s → part a n (place b x s) ≡ part a n s
part-before a n b x s h hs = part_ext a a n (place b x s) s (omega (arith, length-place b x s)) hs (λ i hi. vec-place-before b x s (a + i) (omega arith))

pub part-after : (a n b : ℕ) (x s : List ℕ) → b + length x ≤ a → a + n ≤ length s → part a n (place b x s) ≡ part a n s
part-after a n b x s h hs = part_ext a a n (place b x s) s (omega (arith, length-place b x s)) hs (λ i hi. vec-place-after b x s (a + i) (omega arith))

-- two parts that lie end to end
pub part-add : (a m n : ℕ) (s : List ℕ) → part a (m + n) s ≡ part a m s ++ part (a + m) n s
unfolding part
part-add a m n s = take-add m n (drop a s) ∙ ap (λ (l : List ℕ). take m (drop a s) ++ take n l) (drop-drop m a s)

-- a part that grows at its end
pub part-grows : (a m n : ℕ) (r x s : List ℕ) → part a m s ≡ r → length x ≡ n → a + m + n ≤ length s → part a (m + n) (place (a + m) x s) ≡ r ++ x
part-grows a m n r x s e hx hs =
    part-add a m n (place (a + m) x s) ∙ ap₂ ◌++◌ (part-before a m (a + m) x s (omega arith) (omega arith) ∙ e) (part-place (a + m) n x s hx hs)

-- the same for the parts of repetitions: of n bytes each, e of them are there
pub part-turn : (a n e : ℕ) (f : ℕ → List ℕ) (x s : List ℕ) (b : ℕ) → part a (n * e) s ≡ joined e f → x ≡ f e → length (f e) ≡ n → b ≡ a + n * e → a + n * (e + 1) ≤ length s
    → part a (n * (e + 1)) (place b x s) ≡ joined (e + 1) f
part-turn a n e f x s b p q hn hb hs =
    ap₂ (λ (m : ℕ) (c : ℕ). part a m (place c x s)) more hb
    ∙ part-grows a (n * e) n (joined e f) x s p (ap length q ∙ hn) (omega (arith, more))
    ∙ ap (λ (l : List ℕ). joined e f ++ l) q
    ∙ sym (ap (λ (k : ℕ). joined k f) (add-one e) ∙ joined-suc e f)
  where
    more : n * (e + 1) ≡ n * e + n
    more = rw add-one (mul-suc n e)

pub part_none : (a n : ℕ) (f : ℕ → List ℕ) (s : List ℕ) → part a (n * 0) s ≡ joined 0 f
unfolding part joined
part_none a n f s = ap (λ (m : ℕ). take m (drop a s)) (mul-zero n)

-- a part of a part
pub part-part : (a m b n : ℕ) (s : List ℕ) → b + n ≤ m → a + m ≤ length s → part b n (part a m s) ≡ part (a + b) n s
part-part a m b n s h hs =
    part_ext b (a + b) n (part a m s) s (omega (arith, length_part a m s hs)) (omega arith)
    (λ i hi. vec-part a m s (b + i) (omega arith) ∙ ap (vec s) (omega arith))

-- ---- tables laid end to end

-- element j of repetition e, of n elements each
pub vec-joined : (m n : ℕ) (f : ℕ → List ℕ) → ((e : ℕ) → e < m → length (f e) ≡ n) → (e j : ℕ) → e < m → j < n → vec (joined m f) (n * e + j) ≡ vec (f e) j
vec-joined m n f h e j he hj = sym (vec-part (n * e) n (joined m f) j hj) ∙ ap (λ (l : List ℕ). vec l j) (part-joined m n f h e he)
