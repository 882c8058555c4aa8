-- Laws of the states of a growth. Assumes nothing.
use mathlib.Core.Path.{◌≡◌, refl, sym, ap, ◌∙◌}
use mathlib.Core.Bool.{true, false}
use Prim.Native.Nat.{ℕ, ◌<◌}
use native.Mathlib.Omega.{arith}
use denote.Enum.Bare.{sameb}
use Rattle.base.specs.Tests.{if}
use Rattle.answer.specs.declared.Refusal.{Refusal}
use Rattle.answer.specs.Numbers.{number}
use Rattle.answer.proofs.Exits.{tested_false, passed_test}
use Rattle.journal.specs.declared.states.State.{State}
use Rattle.journal.specs.declared.states.State.TheVariants as It
use Rattle.journal.specs.contracts.states.State.{the_type}
use Rattle.journal.specs.States.{listed_state, counts_as_open, is_closed, ended_refusal}
use Rattle.journal.specs.StateNumbers.{state_number}

-- the number of a state that does not count as open refuses
pub finished_positive : (state : ℕ) → 0 < ended_refusal state
unfolding ended_refusal
finished_positive state = omega arith

-- a state has a listed number
pub state_listed : (state : State) → listed_state (state_number state) ≡ true
unfolding listed_state
state_listed It.Open = refl
state_listed It.Closed = refl

-- the comparison with the closed state
pub closed_test : (state : State) → sameb the_type state It.Closed ≡ is_closed (state_number state)
unfolding is_closed
closed_test It.Open = refl
closed_test It.Closed = refl

-- that test of the number of a state that is known
pub known_test : (state known : State) (n : ℕ) → state ≡ known → state_number state ≡ n → is_closed n ≡ sameb the_type known It.Closed
known_test state known n e h = sym (ap is_closed h) ∙ ap (λ s. is_closed (state_number s)) e ∙ sym (closed_test known)

-- a call that its state refuses, and one that it does not: what that tells of the state's number
pub refuses : (refusal : Refusal) (state : State) (n : ℕ) → state_number state ≡ n
    → number refusal ≡ if (counts_as_open (state_number state)) 0 (ended_refusal (state_number state))
    → (counts_as_open n ≡ false) × (number refusal ≡ ended_refusal n)
refuses refusal state n e h = tested_false refusal (counts_as_open n) (ended_refusal n) (rw e at h)

pub acts : (state : State) (n : ℕ) → state_number state ≡ n
    → 0 ≡ if (counts_as_open (state_number state)) 0 (ended_refusal (state_number state)) → counts_as_open n ≡ true
unfolding ended_refusal
acts state n e h = passed_test (counts_as_open n) 12 (rw e at h)
