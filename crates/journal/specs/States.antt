-- FORMAT §11; document 01, "Words and messages", kind 7: the states of a growth. Assumes nothing.
use Rattle.std.specs.Prelude.{Bool, ◌||◌, ℕ, eqb}

abbrev pub open_state : ℕ
open_state = 1

abbrev pub closed_state : ℕ
closed_state = 2

-- any other state is unlisted
unfoldable pub listed_state : ℕ → Bool
listed_state state = eqb state open_state || eqb state closed_state

-- the growth's own calls act in it
unfoldable pub counts_as_open : ℕ → Bool
counts_as_open state = eqb state open_state

unfoldable pub is_closed : ℕ → Bool
is_closed state = eqb state closed_state

-- what refuses a call in a state that does not count as open: 13 already closed
unfoldable pub ended_refusal : ℕ → ℕ
ended_refusal state = 13
