-- The four classes of a character of a key cell, by ranges of its byte, and what each of them says to the reader. Definitions only.
use Rattle.std.specs.Prelude.{Bool, cond, ◌&&◌, ℕ, ◌+◌, ◌-◌, leb, eqb}
use Rattle.cells.specs.declared.Class.{Class}
use Rattle.cells.specs.declared.Class.TheVariants.{Digit, Lower, Upper, Other}

unfoldable pub between : ℕ → ℕ → ℕ → Bool
between lo hi c = leb lo c && leb c hi

-- 0 to 9 are the bytes 48 to 57, a to f are 97 to 102, A to F are 65 to 70
unfoldable pub class_of : ℕ → Class
class_of c =
    cond (between 48 57 c) (Digit (c - 48))
    (cond (between 97 102 c) (Lower (c - 97 + 10))
    (cond (between 65 70 c) (Upper (c - 65 + 10)) Other))

-- the number that a character of each class calls for
abbrev pub number_in : Class → ℕ
number_in (Digit v) = 0
number_in (Lower v) = 0
number_in (Upper v) = 0
number_in Other = 8

-- the value of the digit that it is; of what is no digit no value is read
abbrev pub value_in : Class → ℕ
value_in (Digit v) = v
value_in (Lower v) = v
value_in (Upper v) = v
value_in Other = 0

unfoldable pub is_hex : ℕ → Bool
is_hex c = eqb (number_in (class_of c)) 0

unfoldable pub hex_value : ℕ → ℕ
hex_value c = value_in (class_of c)
