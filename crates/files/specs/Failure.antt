-- Why a program's number is not 0, and which number that is. Definitions only.
use Rattle.std.specs.Prelude.{◌≡◌, ℕ}
use Rattle.files.specs.declared.failure.Failure.{Failure}
use Rattle.files.specs.declared.failure.Failure.TheVariants.{Input, Refused, Unwritten}

-- gives says which numbers a refusal has
abbrev pub IsNumberOf : {E : Type 0} → (E → ℕ → Type 0) → Failure E → ℕ → Type 0
IsNumberOf gives Input number = number ≡ 1
IsNumberOf gives (Refused e) number = gives e number
IsNumberOf gives Unwritten number = number ≡ 9
