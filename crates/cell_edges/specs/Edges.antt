-- What a case of each kind says. Definitions only.
use Rattle.std.specs.Prelude.{◌≡◌, Bool, true, List, ℕ, ◌+◌, ◌*◌, ◌/◌, ◌≤◌, ◌<◌, take, set, replicate}
use Rattle.octets.specs.Lists.{alike}
use Rattle.cells.specs.Cell.{key_length, cell_length, all_hex, read_bytes, write_text, read_number, write_number}

-- n elements x, but y at place i
unfoldable pub but : ℕ → ℕ → ℕ → ℕ → List ℕ
but n x i y = set (replicate n x) i y

-- a cell of n characters, all 0 but c at place i, is refused with this number for an output of m bytes
pub record Refused (n i c m number : ℕ) : Type 0 where
  pub cell-fits : n ≤ 121
  pub place-fits : i < 121
  pub out-fits : m ≤ 61
  pub refusal : 0 < number
  pub refused : read_number (take n (but 121 48 i c)) m ≡ number

-- a cell of 120 characters, all 0 but c at place i, is read as 60 bytes, all 0 but b at place i / 2
pub record Read (i c b : ℕ) : Type 0 where
  pub place-fits : i < cell_length
  pub hex : all_hex (but cell_length 48 i c) ≡ true
  pub bytes : read_bytes (but cell_length 48 i c) ≡ but key_length 0 (i / 2) b

-- for a key of k bytes and an output of m nothing is written
pub record Unwritten (k m : ℕ) : Type 0 where
  pub key_fits : k ≤ 61
  pub out-fits : m ≤ 121
  pub refused : write_number k m ≡ 1

-- a key of 60 bytes, all 0 but b at place i, is written as 120 characters, all 0 but h and l at 2i and 2i + 1
pub record Written (i b h l : ℕ) : Type 0 where
  pub place-fits : i < key_length
  pub text : write_text (but key_length 0 i b) ≡ set (but cell_length 48 (2 * i) h) (2 * i + 1) l

-- whether n characters a, and m that have c at place i, are the same text
pub record Same (n m i c : ℕ) (answer : Bool) : Type 0 where
  pub left-fits : n ≤ 121
  pub right-fits : m ≤ 121
  pub place-fits : i < 121
  pub answered : alike (take n (replicate 121 97)) (take m (but 121 97 i c)) ≡ answer
