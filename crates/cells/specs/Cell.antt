-- Key cells, the text form of a public key: two hexadecimal characters to a byte, the high half first. What the calls answer, by
-- the numbers 0, 1, 7 and 8. Definitions only.
use Rattle.std.specs.Prelude.{◌≡◌, Bool, true, not, cond, ◌&&◌, List, [], ◌∷◌, ℕ, ◌+◌, ◌-◌, ◌*◌, ◌/◌, ◌%◌, length, ltb, eqb}
use Rattle.cells.specs.Character.{is_hex, hex_value}

-- P, the bytes of a public key, and 2·P
abbrev pub key_length : ℕ
key_length = 60

abbrev pub cell_length : ℕ
cell_length = 2 * key_length

-- ---- texts

unfoldable pub all_hex : List ℕ → Bool
all_hex [] = true
all_hex (c ∷ s) = is_hex c && all_hex s

-- the bytes of a text; a last character without a second one is no byte
unfoldable pub read_bytes : List ℕ → List ℕ
read_bytes [] = []
read_bytes (h ∷ []) = []
read_bytes (h ∷ (l ∷ s)) = (hex_value h * 16 + hex_value l) ∷ read_bytes s

-- the writer's character for a value below 16: 0 to 9 and a to f
unfoldable pub hex_char : ℕ → ℕ
hex_char v = cond (ltb v 10) (48 + v) (97 + (v - 10))

unfoldable pub write_text : List ℕ → List ℕ
write_text [] = []
write_text (b ∷ s) = hex_char (b / 16) ∷ (hex_char (b % 16) ∷ write_text s)

-- ---- read_cell

-- the number for a cell and an output of n bytes
unfoldable pub read_number : List ℕ → ℕ → ℕ
read_number cell n =
    cond (not (eqb n key_length)) 1
    (cond (not (eqb (length cell) cell_length)) 7
    (cond (not (all_hex cell)) 8 0))

-- the output afterwards: the bytes with number 0, and else what it was
unfoldable pub read_output : List ℕ → List ℕ → List ℕ
read_output cell out = cond (eqb (read_number cell (length out)) 0) (read_bytes cell) out

pub record CellRead (cell out : List ℕ) (r : ℕ) (after : List ℕ) : Type 0 where
  pub number : r ≡ read_number cell (length out)
  pub output : after ≡ read_output cell out

-- ---- write_cell

-- the number for a key of k bytes and an output of n
unfoldable pub write_number : ℕ → ℕ → ℕ
write_number k n = cond (eqb k key_length && eqb n cell_length) 0 1

-- the output afterwards: the text with number 0, and else what it was
unfoldable pub write_output : List ℕ → List ℕ → List ℕ
write_output key out = cond (eqb (write_number (length key) (length out)) 0) (write_text key) out

pub record CellWritten (key out : List ℕ) (r : ℕ) (after : List ℕ) : Type 0 where
  pub number : r ≡ write_number (length key) (length out)
  pub output : after ≡ write_output key out
