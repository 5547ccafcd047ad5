-- The laws of `place`. What lies past the buffer's end is dropped, so most need no bounds. Assumes nothing.
use mathlib.Core.Path.{◌≡◌, refl, sym, ◌∙◌, ap}
use mathlib.Core.List.{List, [], ◌∷◌, ◌++◌}
use Prim.Native.Nat.{ℕ, zero, suc, ◌+◌, ◌≤◌}
use native.Mathlib.Omega.{arith}
use native.Mathlib.Nat.{zero-add, suc-add, le_of_suc-le-suc, not-suc-le-zero}
use lib.ListN.{length, take, drop}
use lib.Seq.{take-nil, take-append-le, length-take-le}
use Rattle.octets.specs.Lists.{joined}
use Rattle.octets.specs.Place.{over, place}
use Rattle.octets.proofs.Part.{joined-suc}

pub length_over : (x s : List ℕ) → length (over x s) ≡ length s
unfolding over
length_over [] s = refl
length_over (x ∷ xs) [] = refl
length_over (x ∷ xs) (c ∷ s) = ap suc (length_over xs s)

pub length-place : (a : ℕ) (x s : List ℕ) → length (place a x s) ≡ length s
unfolding place
length-place zero x s = length_over x s
length-place (suc a) x [] = refl
length-place (suc a) x (c ∷ s) = ap suc (length-place a x s)

over-split : (x s : List ℕ) → length x ≤ length s → x ++ drop (length x) s ≡ over x s
unfolding over
over-split [] s h = refl
over-split (x ∷ xs) [] h = absurd (not-suc-le-zero h)
over-split (x ∷ xs) (c ∷ s) h = ap (λ (l : List ℕ). x ∷ l) (over-split xs s (le_of_suc-le-suc h))

-- what a slice holds when a part of it that was lent, as `&mut s[a..a + k]`, is place-back at x
pub place-back : (a k : ℕ) (x s : List ℕ) → length x ≡ k → a + k ≤ length s → take a s ++ (x ++ drop k (drop a s)) ≡ place a x s
unfolding place
place-back zero k x s e h = rw (← e) (over-split x s (omega arith))
place-back (suc a) k x [] e h = absurd (omega arith)
place-back (suc a) k x (c ∷ s) e h = ap (λ (l : List ℕ). c ∷ l) (place-back a k x s e (omega arith))

over-whole : (x s : List ℕ) → length x ≡ length s → over x s ≡ x
unfolding over
over-whole [] [] e = refl
over-whole [] (c ∷ s) e = absurd (omega arith)
over-whole (x ∷ xs) [] e = absurd (omega arith)
over-whole (x ∷ xs) (c ∷ s) e = ap (λ (l : List ℕ). x ∷ l) (over-whole xs s (omega arith))

-- a part over the whole buffer is the buffer
pub place-whole : (x s : List ℕ) → length x ≡ length s → place 0 x s ≡ x
unfolding place
place-whole x s e = over-whole x s e

pub place_none : (a : ℕ) (s : List ℕ) → place a [] s ≡ s
unfolding place over
place_none zero s = refl
place_none (suc a) [] = refl
place_none (suc a) (c ∷ s) = ap (λ (l : List ℕ). c ∷ l) (place_none a s)

over-extend : (r x s : List ℕ) → place (length r) x (over r s) ≡ over (r ++ x) s
unfolding place over
over-extend [] x s = refl
over-extend (c ∷ r) x [] = refl
over-extend (c ∷ r) x (d ∷ s) = ap (λ (l : List ℕ). c ∷ l) (over-extend r x s)

-- a part right behind another makes one part
pub place-extend : (a : ℕ) (r x s : List ℕ) (b : ℕ) → b ≡ a + length r → place b x (place a r s) ≡ place a (r ++ x) s
unfolding place
place-extend zero r x s b e = rw (e, zero-add) (over-extend r x s)
place-extend (suc a) r x [] b e = rw (e, suc-add) refl
place-extend (suc a) r x (c ∷ s) b e = rw (e, suc-add) (ap (λ (l : List ℕ). c ∷ l) (place-extend a r x s (a + length r) refl))

over-apart : (x : List ℕ) (b : ℕ) (y s : List ℕ) → length x ≤ b → over x (place b y s) ≡ place b y (over x s)
unfolding place over
over-apart [] b y s h = refl
over-apart (x ∷ xs) zero y s h = absurd (not-suc-le-zero h)
over-apart (x ∷ xs) (suc b) y [] h = refl
over-apart (x ∷ xs) (suc b) y (c ∷ s) h = ap (λ (l : List ℕ). x ∷ l) (over-apart xs b y s (le_of_suc-le-suc h))

-- parts that do not meet may be written in either order
pub place-apart : (a : ℕ) (x : List ℕ) (b : ℕ) (y s : List ℕ) → a + length x ≤ b → place a x (place b y s) ≡ place b y (place a x s)
unfolding place
place-apart zero x b y s h = over-apart x b y s (omega arith)
place-apart (suc a) x zero y s h = absurd (omega arith)
place-apart (suc a) x (suc b) y [] h = refl
place-apart (suc a) x (suc b) y (c ∷ s) h = ap (λ (l : List ℕ). c ∷ l) (place-apart a x b y s (omega arith))

-- the same, where the buffer and the part are known by what they equal: s is t, and y, of n elements, is x
pub place-write : (a k n : ℕ) (y x s t : List ℕ) → y ≡ x → s ≡ t → length x ≡ n → k ≡ n → a + n ≤ length t → take a s ++ (y ++ drop k (drop a s)) ≡ place a x t
place-write a k n y x s t ey es l e h = rw (ey, es, e) (place-back a n x t l h)

pub drop-take : (m n : ℕ) (s : List ℕ) → drop m (take (m + n) s) ≡ take n (drop m s)
drop-take zero n s = rw zero-add
drop-take (suc m) n [] = rw (suc-add, take-nil)
drop-take (suc m) n (c ∷ s) = rw suc-add (drop-take m n s)

-- the front of a buffer that was written behind it
pub front_kept : (m n : ℕ) (s y z : List ℕ) → m ≤ n → n ≤ length s → take m (take n s ++ (y ++ z)) ≡ take m (take n s)
front_kept m n s y z h k =
    let l : m ≤ length (take n s) = rw (length-take-le n s k) h in
    take-append-le m (take n s) (y ++ z) l

-- a turn of a loop that writes the part of repetition n behind those before it
pub place-turn : (a : ℕ) (f : ℕ → List ℕ) (n : ℕ) (s : List ℕ) (b : ℕ) → b ≡ a + length (joined n f) → place b (f n) (place a (joined n f) s) ≡ place a (joined (suc n) f) s
place-turn a f n s b e = place-extend a (joined n f) (f n) s b e ∙ ap (λ (l : List ℕ). place a l s) (sym (joined-suc n f))
