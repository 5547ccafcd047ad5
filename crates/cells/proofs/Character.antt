-- The laws of the four classes: which bytes are in each, and what the reader makes of them. Assumes nothing.
use mathlib.Core.Path.{◌≡◌, refl, sym, ap, ◌∙◌}
use mathlib.Core.Bool.{Bool, true, false, cond, ◌||◌, and-false, or-true, true≢false}
use Prim.Native.Nat.{ℕ, ◌+◌, ◌-◌, ◌≤◌, ◌<◌}
use native.Mathlib.Omega.{arith}
use borrow.Author.Tests.{le-leb, lt-leb, leb-true, lt-ltb, le-ltb, ltb-true, ltb-false}
use lib.Dec.{leb, ltb, lit<}
use Rattle.std.proofs.lemmas.Bool.{and_parts}
use Rattle.cells.specs.Character.{between, class_of, number_in, value_in, is_hex, hex_value}
use Rattle.cells.specs.Cell.{hex_char}
use Rattle.cells.specs.declared.Class.{Class}
use Rattle.cells.specs.declared.Class.TheVariants.{Digit, Lower, Upper, Other}

-- ---- ranges

pub between_in : (lo hi c : ℕ) → lo ≤ c → c ≤ hi → between lo hi c ≡ true
unfolding between
between_in lo hi c h k = simp (le-leb lo c h, le-leb c hi k)

pub between-below : (lo hi c : ℕ) → c < lo → between lo hi c ≡ false
unfolding between
between-below lo hi c h = simp (lt-leb lo c h)

pub between-above : (lo hi c : ℕ) → hi < c → between lo hi c ≡ false
unfolding between
between-above lo hi c h = rw (lt-leb c hi h) (and-false (leb lo c))

pub between-true : (lo hi c : ℕ) → between lo hi c ≡ true → (lo ≤ c) × (c ≤ hi)
unfolding between
between-true lo hi c e = let b = and_parts (leb lo c) (leb c hi) e in (leb-true lo c b.0, leb-true c hi b.1)

-- ---- the class of a byte

pub class-digit : (c : ℕ) → 48 ≤ c → c ≤ 57 → class_of c ≡ Digit (c - 48)
unfolding class_of
class-digit c h k = simp (between_in 48 57 c h k)

pub class-lower : (c : ℕ) → 97 ≤ c → c ≤ 102 → class_of c ≡ Lower (c - 97 + 10)
unfolding class_of
class-lower c h k = simp (between-above 48 57 c (omega arith), between_in 97 102 c h k)

pub class-upper : (c : ℕ) → 65 ≤ c → c ≤ 70 → class_of c ≡ Upper (c - 65 + 10)
unfolding class_of
class-upper c h k = simp (between-above 48 57 c (omega arith), between-below 97 102 c (omega arith), between_in 65 70 c h k)

-- what lies before, between and after the three ranges

pub class-before : (c : ℕ) → c < 48 → class_of c ≡ Other
unfolding class_of
class-before c h = simp (between-below 48 57 c h, between-below 97 102 c (omega arith), between-below 65 70 c (omega arith))

pub class-between : (c : ℕ) → 57 < c → c < 65 → class_of c ≡ Other
unfolding class_of
class-between c h k = simp (between-above 48 57 c h, between-below 97 102 c (omega arith), between-below 65 70 c k)

pub class-middle : (c : ℕ) → 70 < c → c < 97 → class_of c ≡ Other
unfolding class_of
class-middle c h k = simp (between-above 48 57 c (omega arith), between-below 97 102 c k, between-above 65 70 c h)

pub class-after : (c : ℕ) → 102 < c → class_of c ≡ Other
unfolding class_of
class-after c h = simp (between-above 48 57 c (omega arith), between-above 97 102 c h, between-above 65 70 c (omega arith))

-- ---- the classes, case by case

pub data Classed (c : ℕ) : Type 0 where
  digit : 48 ≤ c → c ≤ 57 → Classed c
  lower : 97 ≤ c → c ≤ 102 → Classed c
  upper : 65 ≤ c → c ≤ 70 → Classed c
  other : class_of c ≡ Other → Classed c

pub classed : (c : ℕ) → Classed c
unfolding class_of
classed c = go (between 48 57 c) (between 97 102 c) (between 65 70 c) refl refl refl
  where
    go : (p q r : Bool) → between 48 57 c ≡ p → between 97 102 c ≡ q → between 65 70 c ≡ r → Classed c
    go true q r e f g = let h = between-true 48 57 c e in digit h.0 h.1
    go false true r e f g = let h = between-true 97 102 c f in lower h.0 h.1
    go false false true e f g = let h = between-true 65 70 c g in upper h.0 h.1
    go false false false e f g = other (simp (e, f, g))

-- ---- hexadecimal digits

-- a byte of a class with the number 0 is a hexadecimal digit, with the value that the class carries

pub hex-of : (c : ℕ) (k : Class) → class_of c ≡ k → number_in k ≡ 0 → is_hex c ≡ true
unfolding is_hex
hex-of c k e z = simp (e, z)

pub not-hex : (c : ℕ) → class_of c ≡ Other → is_hex c ≡ false
unfolding is_hex
not-hex c e = simp e

pub value_of : (c : ℕ) (k : Class) → class_of c ≡ k → hex_value c ≡ value_in k
unfolding hex_value
value_of c k e = ap value_in e

pub value-lt : (c : ℕ) → hex_value c < 16
value-lt c = go (classed c)
  where
    go : Classed c → hex_value c < 16
    go (digit h k) = rw (value_of c (Digit (c - 48)) (class-digit c h k)) (omega arith)
    go (lower h k) = rw (value_of c (Lower (c - 97 + 10)) (class-lower c h k)) (omega arith)
    go (upper h k) = rw (value_of c (Upper (c - 65 + 10)) (class-upper c h k)) (omega arith)
    go (other e) = rw (value_of c Other e) (lit< tt)

-- ---- the writer's characters

pub char-digit : (v : ℕ) → v < 10 → hex_char v ≡ 48 + v
unfolding hex_char
char-digit v h = simp (lt-ltb v 10 h)

pub char-lower : (v : ℕ) → 10 ≤ v → hex_char v ≡ 97 + (v - 10)
unfolding hex_char
char-lower v h = simp (le-ltb v 10 h)

-- a value's character is read as that value

pub record Reads (v c : ℕ) : Type 0 where
  pub hex : is_hex c ≡ true
  pub value : hex_value c ≡ v

pub char-reads : (v : ℕ) → v < 16 → Reads v (hex_char v)
char-reads v h = go (ltb v 10) refl
  where
    go : (t : Bool) → ltb v 10 ≡ t → Reads v (hex_char v)
    go true e =
        let k : v < 10 = ltb-true v 10 e in
        let d = class-digit (48 + v) (omega arith) (omega arith) in
        rw (char-digit v k) (record { hex = hex-of _ _ d refl; value = value_of _ _ d ∙ omega arith })
    go false e =
        let k : 10 ≤ v = ltb-false v 10 e in
        let d = class-lower (97 + (v - 10)) (omega arith) (omega arith) in
        rw (char-lower v k) (record { hex = hex-of _ _ d refl; value = value_of _ _ d ∙ omega arith })

-- 0 to 9 and a to f
unfoldable pub plain : ℕ → Bool
plain c = between 48 57 c || between 97 102 c

pub char-plain : (v : ℕ) → v < 16 → plain (hex_char v) ≡ true
unfolding plain
char-plain v h = go (ltb v 10) refl
  where
    go : (t : Bool) → ltb v 10 ≡ t → (between 48 57 (hex_char v) || between 97 102 (hex_char v)) ≡ true
    go true e =
        let k : v < 10 = ltb-true v 10 e in
        rw (char-digit v k, between_in 48 57 (48 + v) (omega arith) (omega arith))
    go false e =
        let k : 10 ≤ v = ltb-false v 10 e in
        rw (char-lower v k, between_in 97 102 (97 + (v - 10)) (omega arith) (omega arith)) (or-true (between 48 57 (97 + (v - 10))))

-- ---- upper case and lower case

-- a character in lower case
unfoldable pub lowered : ℕ → ℕ
lowered c = cond (between 65 70 c) (c + 32) c

pub lowered-upper : (c : ℕ) → between 65 70 c ≡ true → lowered c ≡ c + 32
unfolding lowered
lowered-upper c e = simp e

pub lowered-other : (c : ℕ) → between 65 70 c ≡ false → lowered c ≡ c
unfolding lowered
lowered-other c e = simp e

-- both cases of a digit are read alike
pub record Alike (c d : ℕ) : Type 0 where
  pub hex : is_hex c ≡ is_hex d
  pub value : hex_value c ≡ hex_value d

pub lowered-alike : (c : ℕ) → Alike (lowered c) c
lowered-alike c = go (between 65 70 c) refl
  where
    go : (t : Bool) → between 65 70 c ≡ t → Alike (lowered c) c
    go true e =
        let b = between-true 65 70 c e in
        let l = class-lower (c + 32) (omega arith) (omega arith) in
        let u = class-upper c b.0 b.1 in
        let v : c + 32 - 97 + 10 ≡ c - 65 + 10 = omega arith in
        rw (lowered-upper c e) (record { hex = hex-of _ _ l refl ∙ sym (hex-of _ _ u refl); value = value_of _ _ l ∙ v ∙ sym (value_of _ _ u) })
    go false e = rw (lowered-other c e) (record { hex = refl; value = refl })

-- the writer's character for a digit's value is the digit in lower case
pub char-value : (c : ℕ) → is_hex c ≡ true → hex_char (hex_value c) ≡ lowered c
char-value c h = go (classed c)
  where
    go : Classed c → hex_char (hex_value c) ≡ lowered c
    go (digit p q) =
        let z : 48 + (c - 48) ≡ c = omega arith in
        ap hex_char (value_of _ _ (class-digit c p q)) ∙ char-digit (c - 48) (omega arith) ∙ z ∙ sym (lowered-other c (between-below 65 70 c (omega arith)))
    go (lower p q) =
        let z : 97 + (c - 97 + 10 - 10) ≡ c = omega arith in
        ap hex_char (value_of _ _ (class-lower c p q)) ∙ char-lower (c - 97 + 10) (omega arith) ∙ z ∙ sym (lowered-other c (between-above 65 70 c (omega arith)))
    go (upper p q) =
        let z : 97 + (c - 65 + 10 - 10) ≡ c + 32 = omega arith in
        ap hex_char (value_of _ _ (class-upper c p q)) ∙ char-lower (c - 65 + 10) (omega arith) ∙ z ∙ sym (lowered-upper c (between_in 65 70 c p q))
    go (other e) = absurd (true≢false (sym h ∙ not-hex c e))
