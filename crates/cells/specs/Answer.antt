-- Document 01's number for what a call on a cell answers: 0 where it is done, else the refusal's. Definitions only.
use Rattle.std.specs.Prelude.{ℕ, Result, Ok, Err}
use Rattle.cells.specs.declared.Refusal.{Refusal}
use Rattle.cells.specs.declared.Refusal.TheVariants.{Length, CellLength, Character}

abbrev pub number_of_refusal : Refusal → ℕ
number_of_refusal Length = 1
number_of_refusal CellLength = 7
number_of_refusal Character = 8

abbrev pub number_of : Result (Unit {0}) Refusal → ℕ
number_of (Ok done) = 0
number_of (Err refusal) = number_of_refusal refusal
