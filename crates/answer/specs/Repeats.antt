-- The answer of a repeat. Assumes nothing.
use Rattle.std.specs.Prelude.{Bool, true, false}
use Rattle.answer.specs.Answers.{Answer, refused, already, done, spent, finished}

abbrev pub is_already : Answer → Bool
is_already (refused x) = false
is_already already = true
is_already done = false
is_already (spent x) = false
is_already (finished x) = false
