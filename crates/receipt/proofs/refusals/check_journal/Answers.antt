-- `receipt::refusals::check_journal` meets its contract. Assumes nothing.
use mathlib.Core.Path.{ap, ◌∙◌}
use borrow.Author.Tests.{eq-eqb, ne_eqb}
use Rattle.answer.specs.Numbers.{refusal_number}
use Rattle.answer.proofs.Exits.{passed, stops}
use Rattle.receipt.specs.Own.{journal_refusal}
use Rattle.receipt.proofs.refusals.check_journal.Goals as goal

pub returns-in_err-layout-clause-refusal : goal.returns-in_err-layout-clause-refusal
unfolding journal_refusal
returns-in_err-layout-clause-refusal c =
    ap refusal_number (passed _ _ c.from_residual.ensures.1) ∙ stops _ _ _ c.in_err-layout.ensures.refusal

pub returns-then-journal_words-journal_length-clause-refusal : goal.returns-then-journal_words-journal_length-clause-refusal
unfolding journal_refusal
returns-then-journal_words-journal_length-clause-refusal c =
    rw (
      ← c.in_ok-layout.ensures.refusal,
      ← c.in_ok-layout.ensures.layout,
      ← c.journal_length.ensures.0,
      ne_eqb _ _ c.if-journal_words-journal_length.true,
    )

pub returns-clause-refusal : goal.returns-clause-refusal
unfolding journal_refusal
returns-clause-refusal c =
    rw (
      ← c.in_ok-layout.ensures.refusal,
      ← c.in_ok-layout.ensures.layout,
      ← c.journal_length.ensures.0,
      eq-eqb _ _ c.if-journal_words-journal_length.false,
    )
