-- `journal::check_status` meets its contract. Assumes nothing.
use mathlib.Core.Path.{sym, ap, ◌∙◌}
use borrow.Author.Tests.{eq-eqb, ne_eqb}
use Rattle.answer.specs.Numbers.{refusal_number}
use Rattle.answer.proofs.Exits.{passed, stops}
use Rattle.journal.specs.Journal.{journal_length}
use Rattle.journal.specs.Status.{status_refusal}
use Rattle.journal.proofs.StatusLaws.{book_last}
use Rattle.journal.proofs.check_status.Goals as goal

pub returns-in_err-layout-clause-refusal : goal.returns-in_err-layout-clause-refusal
unfolding status_refusal
returns-in_err-layout-clause-refusal c =
    ap refusal_number (passed _ _ c.from_residual.ensures.1) ∙ stops _ _ _ c.in_err-layout.ensures.refusal

pub returns-then-journal-journal_length-clause-refusal : goal.returns-then-journal-journal_length-clause-refusal
unfolding status_refusal
returns-then-journal-journal_length-clause-refusal c =
    let layout = c.in_ok-layout.ensures in
    let length = c.journal_length.ensures.0 ∙ ap journal_length layout.layout in
    rw (← layout.refusal, ne_eqb _ _ (λ e. c.if-journal-journal_length.true (e ∙ sym length)))

pub returns-clause-refusal : goal.returns-clause-refusal
unfolding status_refusal
returns-clause-refusal c =
    let layout = c.in_ok-layout.ensures in
    let length = c.journal_length.ensures.0 ∙ ap journal_length layout.layout in
    rw (← layout.refusal, eq-eqb _ _ (c.if-journal-journal_length.false ∙ length), ← layout.layout)
    (c.examine.ensures.refusal ∙ book_last _)

pub returns-clause-book : goal.returns-clause-book
returns-clause-book c = rw c.in_ok-layout.ensures.layout at c.examine.ensures.book
