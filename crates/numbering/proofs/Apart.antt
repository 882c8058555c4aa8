-- No two listed answers of a function have the same number: refusals are below 32, and other answers differ by their code or their value.
-- Assumes nothing.
use mathlib.Core.Path.{◌≡◌, refl, ap}
use native.Mathlib.Omega.{arith}
use Rattle.answer.specs.Answers.{Answer, refused, already, done, spent, finished}
use Rattle.answer.specs.Located.{Located}
use Rattle.answer.specs.Located as Locate
use Rattle.journal.specs.StatusAnswer.{StatusAnswer}
use Rattle.journal.specs.StatusAnswer as Tell
use Rattle.recovery.specs.RebuildAnswer.{RebuildAnswer}
use Rattle.recovery.specs.RebuildAnswer as Rebuild
use Rattle.numbering.specs.Numbering.{coded_answer, coded_place, coded_status, coded_rebuild}
use Rattle.numbering.specs.Claims.{ListedAnswer, ListedPlace, ListedStatus, ListedRebuild}

pub answers_apart : (a c : Answer) → ListedAnswer a → ListedAnswer c → coded_answer a ≡ coded_answer c → a ≡ c
answers_apart (refused x) (refused y) p q e = ap refused e
answers_apart (refused x) already p q e = absurd (omega arith)
answers_apart (refused x) done p q e = absurd (omega arith)
answers_apart (refused x) (spent y) p q e = absurd (omega arith)
answers_apart (refused x) (finished y) p q e = absurd (omega arith)
answers_apart already (refused y) p q e = absurd (omega arith)
answers_apart already already p q e = refl
answers_apart already done p q e = absurd (omega arith)
answers_apart already (spent y) p q e = absurd (omega arith)
answers_apart already (finished y) p q e = absurd (omega arith)
answers_apart done (refused y) p q e = absurd (omega arith)
answers_apart done already p q e = absurd (omega arith)
answers_apart done done p q e = refl
answers_apart done (spent y) p q e = absurd (omega arith)
answers_apart done (finished y) p q e = absurd (omega arith)
answers_apart (spent x) (refused y) p q e = absurd (omega arith)
answers_apart (spent x) already p q e = absurd (omega arith)
answers_apart (spent x) done p q e = absurd (omega arith)
answers_apart (spent x) (spent y) p q e = ap spent (omega arith)
answers_apart (spent x) (finished y) p q e = absurd (omega arith)
answers_apart (finished x) (refused y) p q e = absurd (omega arith)
answers_apart (finished x) already p q e = absurd (omega arith)
answers_apart (finished x) done p q e = absurd (omega arith)
answers_apart (finished x) (spent y) p q e = absurd (omega arith)
answers_apart (finished x) (finished y) p q e = ap finished (omega arith)

pub places_apart : (a c : Located) → ListedPlace a → ListedPlace c → coded_place a ≡ coded_place c → a ≡ c
places_apart (Locate.At x) (Locate.At y) p q e = ap Locate.At (omega arith)
places_apart (Locate.At x) (Locate.Refused y) p q e = absurd (omega arith)
places_apart (Locate.Refused x) (Locate.At y) p q e = absurd (omega arith)
places_apart (Locate.Refused x) (Locate.Refused y) p q e = ap Locate.Refused e

pub statuses_apart : (a c : StatusAnswer) → ListedStatus a → ListedStatus c → coded_status a ≡ coded_status c → a ≡ c
statuses_apart (Tell.State s x) (Tell.State t y) p q e =
    let state : s ≡ t = omega arith in let count : x ≡ y = omega arith in rw (state, count)
statuses_apart (Tell.State s x) (Tell.Refused y) p q e = absurd (omega arith)
statuses_apart (Tell.Refused x) (Tell.State t y) p q e = absurd (omega arith)
statuses_apart (Tell.Refused x) (Tell.Refused y) p q e = ap Tell.Refused e

pub rebuilds_apart : (a c : RebuildAnswer) → ListedRebuild a → ListedRebuild c → coded_rebuild a ≡ coded_rebuild c → a ≡ c
rebuilds_apart (Rebuild.Rebuilt x) (Rebuild.Rebuilt y) p q e = ap Rebuild.Rebuilt (omega arith)
rebuilds_apart (Rebuild.Rebuilt x) (Rebuild.Refused y) p q e = absurd (omega arith)
rebuilds_apart (Rebuild.Refused x) (Rebuild.Rebuilt y) p q e = absurd (omega arith)
rebuilds_apart (Rebuild.Refused x) (Rebuild.Refused y) p q e = ap Rebuild.Refused e
