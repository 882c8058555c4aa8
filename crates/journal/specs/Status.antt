-- FORMAT §13; document 01, "Calls": status tells state and count. Assumes nothing.
use Rattle.std.specs.Prelude.{not, List, [], ◌∷◌, ℕ, zero, suc, eqb, length}
use Rattle.base.specs.Refusals.{Refusal, refuse, first, or_else}
use Rattle.layout.specs.declared.Shape.{Shape}
use Rattle.layout.specs.Ranges.{shape_refusal}
use Rattle.journal.specs.StatusAnswer.{StatusAnswer}
use Rattle.journal.specs.StatusAnswer.{State, Refused}
use Rattle.journal.specs.Journal.{header_of, state_of, count_of, journal_length}
use Rattle.journal.specs.Whole.{whole_ok}

-- 3 the length, 4 the book; before them 1 and 2, the shape
abbrev pub status_refusals : Shape → List ℕ → List Refusal
status_refusals z journal = refuse (not (eqb (length journal) (journal_length z))) 3 ∷ refuse (not (whole_ok z journal)) 4 ∷ []

unfoldable pub status_refusal : Shape → List ℕ → ℕ
status_refusal z journal = or_else (shape_refusal z) (first (status_refusals z journal))

-- the state and the count where nothing refuses
abbrev pub state_or : (refusal : ℕ) → List ℕ → StatusAnswer
state_or zero journal = State (state_of (header_of journal)) (count_of (header_of journal))
state_or (suc x) journal = Refused (suc x)

unfoldable pub status : Shape → List ℕ → StatusAnswer
status z journal = state_or (status_refusal z journal) journal
