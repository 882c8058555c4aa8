-- FORMAT §13. What status answers: state and count, or the number of the refusal. Assumes nothing.
use Rattle.std.specs.Prelude.{ℕ}

pub data StatusAnswer : Type 0 where
  State : ℕ → ℕ → StatusAnswer
  Refused : ℕ → StatusAnswer
