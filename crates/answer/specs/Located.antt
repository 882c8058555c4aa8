-- FORMAT §13. What locate answers: where the block starts in the area, or the number of the refusal. Assumes nothing.
use Rattle.std.specs.Prelude.{ℕ}

pub data Located : Type 0 where
  At : ℕ → Located
  Refused : ℕ → Located
