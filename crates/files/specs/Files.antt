-- What the calls on files answer. Which bytes a file holds no contract can say: they come from the C library. Definitions only.
use Rattle.std.specs.Prelude.{◌≡◌, ◌⊎◌, Bool, false, Result, Ok, Err, List, [], ◌∷◌, ◌++◌, ℕ, ◌+◌, ◌-◌, ◌*◌, ◌≤◌, take}
use Rattle.io.specs.Digits.{last_digits, IsDigitCount}
use Rattle.octets.specs.Lists.{vec}

-- of a buffer that long n bytes were read, none where the file could not be read
abbrev pub Loading : Bool → ℕ → ℕ → Type 0
Loading read n long = (n ≤ long) × (read ≡ false → n ≡ 0)

-- how many bytes a read counts: none where it failed
abbrev pub count_of : {E : Type 0} → Result ℕ E → ℕ
count_of (Ok n) = n
count_of (Err _) = 0

-- 0, stored; 9, an output could not be written
abbrev pub Storing : ℕ → Type 0
Storing number = (number ≡ 0) ⊎ (number ≡ 9)

-- the number of what a call that stores answers
abbrev pub number_of_storing : {E : Type 0} → Result Unit E → ℕ
number_of_storing (Ok _) = 0
number_of_storing (Err _) = 9

-- n as a line is its decimal digits, as few as hold it, and a line end: r characters
abbrev pub LineLong : ℕ → ℕ → Type 0
LineLong n r = IsDigitCount 10 1 n (r - 1)

-- they stand at the start of out
abbrev pub IsLine : ℕ → ℕ → List ℕ → Type 0
IsLine n r out = LineLong n r × (take r out ≡ last_digits 10 (r - 1) n ++ (10 ∷ []))

-- four bytes as a number, the low byte first
abbrev pub low_first : List ℕ → ℕ
low_first bytes = vec bytes 0 + 256 * vec bytes 1 + 65536 * vec bytes 2 + 16777216 * vec bytes 3
