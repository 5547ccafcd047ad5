-- Bytes added to a state: one after the other, zeros, and the bytes of a lane at once. Assumes nothing.
use mathlib.Core.Path.{◌≡◌, refl, sym, ap, ap₂, ◌∙◌}
use mathlib.Core.List.{List, [], ◌∷◌, ◌++◌}
use Prim.Native.Nat.{ℕ, zero, suc, ◌+◌, ◌*◌, ◌/◌, ◌%◌, ◌^◌, ◌<◌, ◌≤◌}
use native.Mathlib.Nat.{add-zero, add-suc, suc-add, zero-mul, mul-one, mul_assoc}
use native.Mathlib.Omega.{arith}
use lib.ListN.{length, get_or, set, take, drop, replicate}
use Rattle.std.proofs.lemmas.List.{length-take-le}
use Rattle.std.specs.Simd.{first_chunks}
use lib.Pow.{pow-add}
use lib.Seq.{set-get_or, take-add, drop-drop}
use Rattle.octets.specs.Xor.{◌⊕◌}
use Rattle.octets.specs.Lists.{Bytes, vec, part}
use Rattle.octets.proofs.Part.{length_part}
use Rattle.octets.proofs.Xor.{⊕-assoc, ⊕-comm, ⊕-zero-r}
use Rattle.shake.specs.Shake.{xor_lane, xor_byte, xor_bytes}
use Rattle.shake.specs.Held.{number}
use Rattle.octets.proofs.Slices.{⊕-shl, ⊕-disjoint, part-zero, part-cons, part-append}

-- ---- a lane

pub xor_lane-twice : (l : List ℕ) (k x y : ℕ) → xor_lane (xor_lane l k x) k y ≡ xor_lane l k (x ⊕ y)
unfolding xor_lane
xor_lane-twice [] k x y = refl
xor_lane-twice (h ∷ t) zero x y = ap (λ (z : ℕ). z ∷ t) (⊕-assoc h x y)
xor_lane-twice (h ∷ t) (suc k) x y = ap (λ (z : List ℕ). h ∷ z) (xor_lane-twice t k x y)

pub xor_lane-zero : (l : List ℕ) (k : ℕ) → xor_lane l k 0 ≡ l
unfolding xor_lane
xor_lane-zero l k = ap (set l k) (⊕-zero-r (get_or l k 0)) ∙ set-get_or l k 0

-- ---- bytes

pub xor_bytes-append : (p q a : List ℕ) (j : ℕ) → xor_bytes a j (p ++ q) ≡ xor_bytes (xor_bytes a j p) (j + length p) q
unfolding xor_bytes
xor_bytes-append [] q a j = ap (λ (k : ℕ). xor_bytes a k q) (sym (add-zero j))
xor_bytes-append (b ∷ p) q a j =
    xor_bytes-append p q (xor_byte a j b) (suc j)
    ∙ ap (λ (k : ℕ). xor_bytes (xor_bytes (xor_byte a j b) (suc j) p) k q) (suc-add j (length p) ∙ sym (add-suc j (length p)))

-- one byte
pub byte-first : (a l : List ℕ) (j : ℕ) → 0 < length l → xor_byte a j (vec l 0) ≡ xor_bytes a j (take 1 l)
unfolding xor_bytes
byte-first a [] j h = absurd (omega arith)
byte-first a (b ∷ l) j h = refl

-- a part of one byte
pub byte-part : (a l : List ℕ) (j i : ℕ) → i < length l → xor_byte a j (vec l i) ≡ xor_bytes a j (part i 1 l)
unfolding xor_bytes
byte-part a l j i h = sym (ap (xor_bytes a j) (part-cons i 0 l h ∙ ap (λ (t : List ℕ). vec l i ∷ t) (part-zero (i + 1) l)))

pub xor_bytes-zeros : (n : ℕ) (a : List ℕ) (j : ℕ) → xor_bytes a j (replicate n 0) ≡ a
unfolding xor_bytes
xor_bytes-zeros zero a j = refl
xor_bytes-zeros (suc n) a j =
    xor_bytes-zeros n (xor_byte a j 0) (suc j) ∙ ap (xor_lane a (j / 8)) (zero-mul (2 ^ (8 * (j % 8)))) ∙ xor_lane-zero a (j / 8)

-- ---- the bytes of a lane at once

xor_byte-at : (a : List ℕ) (k t b : ℕ) → t < 8 → xor_byte a (8 * k + t) b ≡ xor_lane a k (b * 2 ^ (8 * t))
xor_byte-at a k t b h = ap₂ (λ (x y : ℕ). xor_lane a x (b * 2 ^ (8 * y))) high low
  where
    high : (8 * k + t) / 8 ≡ k
    high = omega arith

    low : (8 * k + t) % 8 ≡ t
    low = omega arith

-- a byte, and a number above it
byte_above : (b q t : ℕ) → b < 256 → (b * 2 ^ (8 * t)) ⊕ (q * 2 ^ (8 * suc t)) ≡ (b + 256 * q) * 2 ^ (8 * t)
byte_above b q t h =
    ap (λ (x : ℕ). (b * 2 ^ (8 * t)) ⊕ x) shifted
    ∙ sym (⊕-shl (8 * t) b (q * 2 ^ 8))
    ∙ ap (λ (x : ℕ). x * 2 ^ (8 * t)) (⊕-comm b (q * 2 ^ 8) ∙ ⊕-disjoint 8 q b h ∙ omega arith)
  where
    eight : 8 * suc t ≡ 8 + 8 * t
    eight = omega arith

    shifted : q * 2 ^ (8 * suc t) ≡ q * 2 ^ 8 * 2 ^ (8 * t)
    shifted = ap (λ (n : ℕ). q * 2 ^ n) eight ∙ ap (λ (n : ℕ). q * n) (pow-add 2 8 (8 * t)) ∙ sym (mul_assoc q (2 ^ 8) (2 ^ (8 * t)))

xor_bytes-above : (p a : List ℕ) (k t : ℕ) → Bytes p → t + length p ≤ 8 → xor_bytes a (8 * k + t) p ≡ xor_lane a k (number p * 2 ^ (8 * t))
unfolding xor_bytes number Bytes
xor_bytes-above [] a k t bytes h = sym (ap (xor_lane a k) (zero-mul (2 ^ (8 * t))) ∙ xor_lane-zero a k)
xor_bytes-above (b ∷ p) a k t bytes h =
    ap₂ (λ (y : List ℕ) (j : ℕ). xor_bytes y j p) (xor_byte-at a k t b (omega arith)) (sym (add-suc (8 * k) t))
    ∙ xor_bytes-above p (xor_lane a k (b * 2 ^ (8 * t))) k (suc t) bytes.1 (omega arith)
    ∙ xor_lane-twice a k (b * 2 ^ (8 * t)) (number p * 2 ^ (8 * suc t))
    ∙ ap (xor_lane a k) (byte_above b (number p) t bytes.0)

pub xor_bytes-number : (p a : List ℕ) (k : ℕ) → Bytes p → length p ≤ 8 → xor_lane a k (number p) ≡ xor_bytes a (8 * k) p
xor_bytes-number p a k bytes h =
    sym (ap (λ (j : ℕ). xor_bytes a j p) (sym (add-zero (8 * k)))
    ∙ xor_bytes-above p a k 0 bytes (omega arith)
    ∙ ap (xor_lane a k) (mul-one (number p)))

-- ---- a block, lane by lane

-- lane k of it
word-at : (k m : ℕ) (l d : List ℕ) → k < m → get_or (first_chunks 8 m l) k d ≡ take 8 (drop (8 * k) l)
word-at k zero l d h = absurd (omega arith)
word-at zero (suc m) l d h = refl
word-at (suc k) (suc m) l d h =
    let next : 8 + 8 * k ≡ 8 * suc k = omega arith in
    word-at k m (drop 8 l) d (omega arith) ∙ ap (take 8) (drop-drop (8 * k) 8 l ∙ ap (λ (i : ℕ). drop i l) next)

pub block-turn : (a l : List ℕ) (k : ℕ) (d : List ℕ) {x y : List ℕ} {words : List (List ℕ)} → words ≡ first_chunks 8 (length l / 8) l → k < length l / 8
    → x ≡ xor_bytes a 0 (take (8 * k) l)
    → y ≡ xor_bytes x (8 * k) (get_or words k d)
    → y ≡ xor_bytes a 0 (take (8 * (k + 1)) l)
block-turn a l k d f h e w =
    let size : 8 * k ≡ 0 + length (take (8 * k) l) = omega (arith, length-take-le (8 * k) l (omega arith)) in
    let next : 8 * k + 8 ≡ 8 * (k + 1) = omega arith in
    w
    ∙ ap₂ (λ (z p : List ℕ). xor_bytes z (8 * k) p) e (ap (λ (ws : List (List ℕ)). get_or ws k d) f ∙ word-at k (length l / 8) l d h)
    ∙ ap (λ (j : ℕ). xor_bytes (xor_bytes a 0 (take (8 * k) l)) j (take 8 (drop (8 * k) l))) size
    ∙ sym (xor_bytes-append (take (8 * k) l) (take 8 (drop (8 * k) l)) a 0)
    ∙ ap (xor_bytes a 0) (sym (take-add (8 * k) 8 l) ∙ ap (λ (n : ℕ). take n l) next)

-- ---- lanes of a text by their place in it

pub block_none : (a l : List ℕ) (i : ℕ) → a ≡ xor_bytes a 0 (part i (8 * 0) l)
unfolding xor_bytes
block_none a l i = sym (ap (xor_bytes a 0) (part-zero i l))

pub block_more : (a l : List ℕ) (i k : ℕ) → i + 8 * k ≤ length l
    → xor_bytes (xor_bytes a 0 (part i (8 * k) l)) (8 * k) (part (i + 8 * k) 8 l) ≡ xor_bytes a 0 (part i (8 * (k + 1)) l)
block_more a l i k h =
    ap (λ (j : ℕ). xor_bytes (xor_bytes a 0 (part i (8 * k) l)) j (part (i + 8 * k) 8 l)) size
    ∙ sym (xor_bytes-append (part i (8 * k) l) (part (i + 8 * k) 8 l) a 0)
    ∙ ap (xor_bytes a 0) (part-append i (8 * k) 8 l ∙ ap (λ (n : ℕ). part i n l) next)
  where
    size : 8 * k ≡ 0 + length (part i (8 * k) l)
    size = omega (arith, length_part i (8 * k) l h)

    next : 8 * k + 8 ≡ 8 * (k + 1)
    next = omega arith
