-- FORMAT §17. What a function for C answers: an answer of document 01 as one number, code + 256 * value. Assumes nothing.
use Rattle.std.specs.Prelude.{ℕ, ◌+◌, ◌*◌}
use Rattle.answer.specs.Answers.{Answer, refused, already, done, spent, finished}
use Rattle.answer.specs.Located.{Located}
use Rattle.answer.specs.Located as Locate
use Rattle.journal.specs.StatusAnswer.{StatusAnswer}
use Rattle.journal.specs.StatusAnswer as Tell
use Rattle.recovery.specs.RebuildAnswer.{RebuildAnswer}
use Rattle.recovery.specs.RebuildAnswer as Rebuild

abbrev pub coded : (code value : ℕ) → ℕ
coded code value = code + 256 * value

-- encode, begin, the steps of a growth and drive: a refusal is its number; a drive's value is how many transfers it newly accepted
abbrev pub coded_answer : Answer → ℕ
coded_answer (refused x) = x
coded_answer already = 32
coded_answer done = 0
coded_answer (spent x) = coded 33 x
coded_answer (finished x) = coded 34 x

-- read: the value is the block's offset in bytes
abbrev pub coded_place : Located → ℕ
coded_place (Locate.At offset) = coded 0 offset
coded_place (Locate.Refused x) = x

-- status: 41 open, 42 closed, and the value is the count
abbrev pub coded_status : StatusAnswer → ℕ
coded_status (Tell.State state count) = coded (40 + state) count
coded_status (Tell.Refused x) = x

-- rebuild: the value is the number of lost blocks
abbrev pub coded_rebuild : RebuildAnswer → ℕ
coded_rebuild (Rebuild.Rebuilt lost) = coded 0 lost
coded_rebuild (Rebuild.Refused x) = x
