-- `journal::headers::check_header` meets its contract. Assumes nothing.
use mathlib.Core.Bool.{and-true}
use Rattle.base.proofs.Refusals.{tests}
use Rattle.answer.proofs.Exits.{passed}
use Rattle.journal.specs.Journal as H
use Rattle.journal.proofs.StateLaws.{state_listed}
use Rattle.journal.proofs.headers.check_header.Goals as goal

pub returns-in_err-state-clause-refusal : goal.returns-in_err-state-clause-refusal
unfolding H.header_ok
returns-in_err-state-clause-refusal c =
    rw (passed _ _ c.from_residual.ensures.1, ← c.state_of.ensures.0, c.in_err-state.ensures.0, c.in_err-state.ensures.1) (search tests)

pub returns-then-eq-clause-refusal : goal.returns-then-eq-clause-refusal
unfolding H.header_ok
returns-then-eq-clause-refusal c =
    rw (
      ← c.state_of.ensures.0,
      ← c.in_ok-state.ensures,
      state_listed c.in_ok-state.state,
      ← c.state_word.ensures,
      ← c.size_word.ensures,
      ← c.number_of.ensures.0,
      ← c.growth_word.ensures,
      ← c.count_of.ensures.0,
      ← c.count_word.ensures,
      and-true,
      ← c.if-eq.ensures,
    )

pub returns-else-eq-clause-refusal : goal.returns-else-eq-clause-refusal
unfolding H.header_ok
returns-else-eq-clause-refusal c =
    rw (
      ← c.state_of.ensures.0,
      ← c.in_ok-state.ensures,
      state_listed c.in_ok-state.state,
      ← c.state_word.ensures,
      ← c.size_word.ensures,
      ← c.number_of.ensures.0,
      ← c.growth_word.ensures,
      ← c.count_of.ensures.0,
      ← c.count_word.ensures,
      and-true,
      ← c.if-eq.ensures,
    )
