-- FORMAT §15. What rebuild answers: how many blocks were lost and are written, or the number of the refusal. Assumes nothing.
use Rattle.std.specs.Prelude.{ℕ}

pub data RebuildAnswer : Type 0 where
  Rebuilt : ℕ → RebuildAnswer
  Refused : ℕ → RebuildAnswer
