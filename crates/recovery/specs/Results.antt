-- FORMAT §16. Which of document 01's answers each result of rebuild is. Assumes nothing.
use Rattle.std.specs.Prelude.{ℕ, Result, Ok, Err}
use Rattle.answer.specs.declared.Refusal.{Refusal}
use Rattle.answer.specs.Numbers.{number}
use Rattle.recovery.specs.RebuildAnswer.{RebuildAnswer, Rebuilt, Refused}

abbrev pub of_rebuild : Result ℕ Refusal → RebuildAnswer
of_rebuild (Ok lost) = Rebuilt lost
of_rebuild (Err refusal) = Refused (number refusal)
