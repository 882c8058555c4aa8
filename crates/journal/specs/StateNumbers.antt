-- FORMAT §11, §16. The numbers of the states, and which of document 01's answers each result of status is. Assumes nothing.
use Rattle.std.specs.Prelude.{◌≡◌, false, ℕ, Result, Ok, Err}
use Rattle.answer.specs.declared.Refusal.{Refusal}
use Rattle.answer.specs.declared.Refusal.TheVariants.{DamagedBook}
use Rattle.answer.specs.Numbers.{number}
use Rattle.journal.specs.declared.states.State.{State}
use Rattle.journal.specs.declared.states.State.TheVariants as It
use Rattle.journal.specs.declared.GrowthStatus.{GrowthStatus}
use Rattle.journal.specs.StatusAnswer as Tell
use Rattle.journal.specs.StatusAnswer.{StatusAnswer}
use Rattle.journal.specs.States.{listed_state, open_state, closed_state}

abbrev pub state_number : State → ℕ
state_number It.Open = open_state
state_number It.Closed = closed_state

-- the state of a number; an unlisted one is damage
abbrev pub Decodes : ℕ → Result State Refusal → Type 0
Decodes n (Ok state) = state_number state ≡ n
Decodes n (Err refusal) = (listed_state n ≡ false) × (refusal ≡ DamagedBook)

-- which of document 01's answers a result of status is
abbrev pub of_status : Result GrowthStatus Refusal → StatusAnswer
of_status (Ok status) = Tell.State (state_number status.state) status.count
of_status (Err refusal) = Tell.Refused (number refusal)
