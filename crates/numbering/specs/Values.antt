-- The value that an answer of read, status and rebuild carries; that of a drive is `carried` in answer/specs/Answers. Assumes nothing.
use Rattle.std.specs.Prelude.{ℕ}
use Rattle.answer.specs.Located.{Located}
use Rattle.answer.specs.Located as Locate
use Rattle.journal.specs.StatusAnswer.{StatusAnswer}
use Rattle.journal.specs.StatusAnswer as Tell
use Rattle.recovery.specs.RebuildAnswer.{RebuildAnswer}
use Rattle.recovery.specs.RebuildAnswer as Rebuild

abbrev pub offset : Located → ℕ
offset (Locate.At x) = x
offset (Locate.Refused x) = 0

abbrev pub count : StatusAnswer → ℕ
count (Tell.State state x) = x
count (Tell.Refused x) = 0

abbrev pub lost : RebuildAnswer → ℕ
lost (Rebuild.Rebuilt x) = x
lost (Rebuild.Refused x) = 0
