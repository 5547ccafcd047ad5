-- The laws of texts of hexadecimal characters: reading, writing, and that what was written is read back. Assumes nothing.
use mathlib.Core.Path.{◌≡◌, refl, ap, ap₂, ◌∙◌}
use mathlib.Core.Bool.{Bool, true, false, ◌&&◌, and-false, true≢false}
use mathlib.Core.List.{List, [], ◌∷◌, map}
use Prim.Native.Nat.{ℕ, zero, suc, ◌+◌, ◌*◌, ◌/◌, ◌%◌, ◌≤◌, ◌<◌}
use native.Mathlib.Omega.{arith}
use native.Mathlib.Numerals.{add-one}
use lib.Dec.{lit≤}
use lib.ListN.{length, drop, replicate, drop_of_length-le}
use lib.Seq.{drop-cons}
use Rattle.octets.specs.Lists.{vec, Bytes}
use Rattle.cells.specs.Character.{is_hex, hex_value}
use Rattle.cells.specs.Cell.{all_hex, read_bytes, hex_char, write_text}
use Rattle.std.proofs.lemmas.Bool.{and_parts}
use Rattle.cells.proofs.Character.{hex-of, value_of, class-digit, value-lt, char-reads, char-value, char-plain, plain, lowered, lowered-alike}
use Rattle.cells.specs.declared.Class.TheVariants.{Digit}

-- ---- a loop that looks at each character

pub hex-turn : (s : List ℕ) (i : ℕ) → i < length s → is_hex (vec s i) ≡ true → all_hex (drop i s) ≡ all_hex (drop (i + 1) s)
unfolding all_hex
hex-turn s i h e = rw (add-one, drop-cons s i 0 h) (rw e)

pub hex-stop : (s : List ℕ) (i : ℕ) → i < length s → is_hex (vec s i) ≡ false → all_hex (drop i s) ≡ false
unfolding all_hex
hex-stop s i h e = rw (drop-cons s i 0 h) (rw e)

pub hex-end : (s : List ℕ) (i : ℕ) → length s ≤ i → all_hex (drop i s) ≡ true
unfolding all_hex
hex-end s i h = rw (drop_of_length-le s h)

-- ---- all characters, or one that is no digit

pub hex-bad : (s : List ℕ) (i : ℕ) → i < length s → is_hex (vec s i) ≡ false → all_hex s ≡ false
unfolding all_hex
hex-bad [] i h e = absurd (omega arith)
hex-bad (c ∷ s) zero h e = rw e
hex-bad (c ∷ s) (suc i) h e = rw (hex-bad s i (omega arith) e) (and-false (is_hex c))

pub record Bad (s : List ℕ) : Type 0 where
  pub place : ℕ
  pub inside : place < length s
  pub no_digit : is_hex (vec s place) ≡ false

pub bad-place : (s : List ℕ) → all_hex s ≡ false → Bad s
unfolding all_hex
bad-place [] e = absurd (true≢false e)
bad-place (c ∷ s) e = go (is_hex c) refl (bad-place s) e
  where
    go : (t : Bool) → is_hex c ≡ t → (all_hex s ≡ false → Bad s) → (t && all_hex s) ≡ false → Bad (c ∷ s)
    go true p f e = let b = f e in record { place = suc b.place; inside = omega arith; no_digit = b.no_digit }
    go false p f e = record { place = 0; inside = omega arith; no_digit = p }

-- ---- reading

pub length-read_bytes : (n : ℕ) (s : List ℕ) → length s ≡ 2 * n → length (read_bytes s) ≡ n
unfolding read_bytes
length-read_bytes zero [] e = refl
length-read_bytes zero (x ∷ s) e = absurd (omega arith)
length-read_bytes (suc n) [] e = absurd (omega arith)
length-read_bytes (suc n) (x ∷ []) e = absurd (omega arith)
length-read_bytes (suc n) (h ∷ (l ∷ s)) e = ap suc (length-read_bytes n s (omega arith))

pub vec-read_bytes : (i : ℕ) (s : List ℕ) → 2 * i + 1 < length s → vec (read_bytes s) i ≡ hex_value (vec s (2 * i)) * 16 + hex_value (vec s (2 * i + 1))
unfolding read_bytes
vec-read_bytes zero [] k = absurd (omega arith)
vec-read_bytes zero (x ∷ []) k = absurd (omega arith)
vec-read_bytes zero (h ∷ (l ∷ s)) k = refl
vec-read_bytes (suc i) [] k = absurd (omega arith)
vec-read_bytes (suc i) (x ∷ []) k = absurd (omega arith)
vec-read_bytes (suc i) (h ∷ (l ∷ s)) k =
    let e : 2 * suc i ≡ suc (suc (2 * i)) = omega arith in
    let f : 2 * suc i + 1 ≡ suc (suc (2 * i + 1)) = omega arith in
    rw (f, e) (vec-read_bytes i s (omega arith))

-- ---- writing

pub length-write_text : (k : List ℕ) → length (write_text k) ≡ 2 * length k
unfolding write_text
length-write_text [] = refl
length-write_text (b ∷ s) = let h = length-write_text s in omega arith

pub write_text-high : (i : ℕ) (k : List ℕ) → i < length k → vec (write_text k) (2 * i) ≡ hex_char (vec k i / 16)
unfolding write_text
write_text-high zero [] h = absurd (omega arith)
write_text-high zero (b ∷ s) h = refl
write_text-high (suc i) [] h = absurd (omega arith)
write_text-high (suc i) (b ∷ s) h =
    let e : 2 * suc i ≡ suc (suc (2 * i)) = omega arith in
    rw e (write_text-high i s (omega arith))

pub write_text-low : (i : ℕ) (k : List ℕ) → i < length k → vec (write_text k) (2 * i + 1) ≡ hex_char (vec k i % 16)
unfolding write_text
write_text-low zero [] h = absurd (omega arith)
write_text-low zero (b ∷ s) h = refl
write_text-low (suc i) [] h = absurd (omega arith)
write_text-low (suc i) (b ∷ s) h =
    let e : 2 * suc i + 1 ≡ suc (suc (2 * i + 1)) = omega arith in
    rw e (write_text-low i s (omega arith))

-- ---- what is written is read back

pub write_text-hex : (k : List ℕ) → Bytes k → all_hex (write_text k) ≡ true
unfolding all_hex write_text Bytes
write_text-hex [] f = refl
write_text-hex (b ∷ s) f =
    let h = char-reads (b / 16) (omega arith) in
    let l = char-reads (b % 16) (omega arith) in
    rw (h.hex, l.hex) (write_text-hex s f.1)

pub read-write_text : (k : List ℕ) → Bytes k → read_bytes (write_text k) ≡ k
unfolding read_bytes write_text Bytes
read-write_text [] f = refl
read-write_text (b ∷ s) f =
    let h = char-reads (b / 16) (omega arith) in
    let l = char-reads (b % 16) (omega arith) in
    let z : b / 16 * 16 + b % 16 ≡ b = omega arith in
    rw (h.value, l.value, read-write_text s f.1, z)

-- and what is read is written back, in lower case
pub write-read_bytes : (n : ℕ) (s : List ℕ) → length s ≡ 2 * n → all_hex s ≡ true → write_text (read_bytes s) ≡ map lowered s
unfolding all_hex read_bytes write_text
write-read_bytes zero [] e a = refl
write-read_bytes zero (x ∷ s) e a = absurd (omega arith)
write-read_bytes (suc n) [] e a = absurd (omega arith)
write-read_bytes (suc n) (x ∷ []) e a = absurd (omega arith)
write-read_bytes (suc n) (h ∷ (l ∷ s)) e a =
    let p = and_parts (is_hex h) (is_hex l && all_hex s) a in
    let q = and_parts (is_hex l) (all_hex s) p.1 in
    let x : (hex_value h * 16 + hex_value l) / 16 ≡ hex_value h = omega (arith, value-lt h, value-lt l) in
    let y : (hex_value h * 16 + hex_value l) % 16 ≡ hex_value l = omega (arith, value-lt h, value-lt l) in
    rw (x, y, char-value h p.0, char-value l q.0, write-read_bytes n s (omega arith) q.1)

-- the writer uses digits and a to f
pub write_text-plain : (k : List ℕ) → Bytes k → (i : ℕ) → i < length (write_text k) → plain (vec (write_text k) i) ≡ true
unfolding write_text Bytes
write_text-plain [] f i h = absurd (omega arith)
write_text-plain (b ∷ s) f zero h = char-plain (b / 16) (omega arith)
write_text-plain (b ∷ s) f (suc zero) h = char-plain (b % 16) (omega arith)
write_text-plain (b ∷ s) f (suc (suc i)) h = write_text-plain s f.1 i (omega arith)

-- ---- upper case and lower case, and zeros

pub all_hex-lowered : (s : List ℕ) → all_hex (map lowered s) ≡ all_hex s
unfolding all_hex
all_hex-lowered [] = refl
all_hex-lowered (c ∷ s) = ap₂ ◌&&◌ (lowered-alike c).hex (all_hex-lowered s)

pub read_bytes-lowered : (s : List ℕ) → read_bytes (map lowered s) ≡ read_bytes s
unfolding read_bytes
read_bytes-lowered [] = refl
read_bytes-lowered (h ∷ []) = refl
read_bytes-lowered (h ∷ (l ∷ s)) = rw ((lowered-alike h).value, (lowered-alike l).value, read_bytes-lowered s)

pub all_hex-zeros : (n : ℕ) → all_hex (replicate n 48) ≡ true
unfolding all_hex
all_hex-zeros zero = refl
all_hex-zeros (suc n) = rw (hex-of 48 (Digit 0) (class-digit 48 (lit≤ tt) (lit≤ tt)) refl) (all_hex-zeros n)

pub read_bytes-zeros : (n : ℕ) (s : List ℕ) → s ≡ replicate (2 * n) 48 → read_bytes s ≡ replicate n 0
unfolding read_bytes
read_bytes-zeros zero s e = ap read_bytes e
read_bytes-zeros (suc n) s e =
    let d : 2 * suc n ≡ suc (suc (2 * n)) = omega arith in
    ap read_bytes (e ∙ ap (λ (m : ℕ). replicate m 48) d) ∙ rw (value_of 48 (Digit 0) (class-digit 48 (lit≤ tt) (lit≤ tt)), read_bytes-zeros n (replicate (2 * n) 48) refl)
