-- Document 01's number for what a call answers: 0 where it is Ok, else the refusal's. Definitions only.
use Rattle.std.specs.Prelude.{ℕ, Result, Ok, Err}
use Rattle.mqom.specs.declared.Refusal.{Refusal}
use Rattle.mqom.specs.declared.Refusal.TheVariants.{Length, Message, Tries, Unsatisfied, Spent, Rejected}

abbrev pub number_of_refusal : Refusal → ℕ
number_of_refusal Length = 1
number_of_refusal Message = 2
number_of_refusal Tries = 3
number_of_refusal Unsatisfied = 4
number_of_refusal Spent = 5
number_of_refusal Rejected = 6

abbrev pub number_of_answer : Result (Unit {0}) Refusal → ℕ
number_of_answer (Ok done) = 0
number_of_answer (Err refusal) = number_of_refusal refusal
