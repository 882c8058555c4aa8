-- FORMAT §12. The numbers of the refusals. Assumes nothing.
use Rattle.std.specs.Prelude.{ℕ, Result, Ok, Err}
use Rattle.answer.specs.declared.Refusal.{Refusal}
use Rattle.answer.specs.declared.Refusal.TheVariants as It

abbrev pub number : Refusal → ℕ
number It.Shape = 1
number It.TooManyNewNodes = 2
number It.Length = 3
number It.DamagedBook = 4
number It.OutOfRange = 5
number It.NotComputed = 6
number It.Released = 7
number It.Unfinished = 8
number It.Malformed = 9
number It.OtherGrowth = 10
number It.Ambiguous = 11
number It.Inconsistent = 12
number It.Closed = 13

-- the number of the refusal that a result has, 0 where it has none
abbrev pub refusal_number : {A : Type 0} → Result A Refusal → ℕ
refusal_number (Ok x) = 0
refusal_number (Err x) = number x
