-- `close::check_close` meets its contract. Assumes nothing.
use mathlib.Core.Path.{sym, ap, ◌∙◌}
use Rattle.base.specs.Tests.{every}
use Rattle.answer.specs.Numbers.{refusal_number}
use Rattle.answer.proofs.Exits.{passed}
use Rattle.layout.specs.Counts.{kept}
use Rattle.journal.specs.Journal.{journal_length}
use Rattle.growth.specs.Read.{released_by}
use Rattle.lent.specs.Checks.{whole_refusal}
use Rattle.lent.proofs.StoreLaws.{store_lent}
use Rattle.close.proofs.InParts.{stops_first, stops_later, passes}
use Rattle.close.proofs.check_close.Goals as goal

pub returns-in_err-layout-clause-refusal : goal.returns-in_err-layout-clause-refusal
returns-in_err-layout-clause-refusal c =
    ap refusal_number (passed _ _ c.from_residual.ensures.1) ∙ stops_first _ _ c.args.journal.now _ c.in_err-layout.ensures.refusal

pub check_whole-requires : goal.check_whole-requires
check_whole-requires c =
    let layout = c.in_ok-layout.ensures in
    (store_lent _ _ _ (sym layout.refusal)).journal_long ∙ ap journal_length (sym layout.layout)

pub returns-in_err-book-clause-refusal : goal.returns-in_err-book-clause-refusal
returns-in_err-book-clause-refusal c =
    let layout = c.in_ok-layout.ensures in
    ap refusal_number (passed _ _ c.from_residual-in_err-book.ensures.1)
    ∙ stops_later _ _ c.args.journal.now layout.refusal _
    (c.in_err-book.ensures.refusal ∙ ap (λ z. whole_refusal z c.args.journal.now) layout.layout)

pub returns-then-not-book-clause-refusal : goal.returns-then-not-book-clause-refusal
returns-then-not-book-clause-refusal c =
    let layout = c.in_ok-layout.ensures in
    let book = c.in_ok-book.ensures in
    let good = book.refusal ∙ ap (λ z. whole_refusal z c.args.journal.now) layout.layout in
    let released = book.book.released ∙ ap (λ z. every (kept z) (released_by c.args.journal.now)) layout.layout in
    rw (passes _ _ c.args.journal.now layout.refusal good _ released, c.if-not-book.true)

pub returns-clause-refusal : goal.returns-clause-refusal
returns-clause-refusal c =
    let layout = c.in_ok-layout.ensures in
    let book = c.in_ok-book.ensures in
    let good = book.refusal ∙ ap (λ z. whole_refusal z c.args.journal.now) layout.layout in
    let released = book.book.released ∙ ap (λ z. every (kept z) (released_by c.args.journal.now)) layout.layout in
    rw (passes _ _ c.args.journal.now layout.refusal good _ released, c.if-not-book.false)
