-- `journal::status` meets its contract. Assumes nothing.
use mathlib.Core.Path.{sym, ap₂, ◌∙◌}
use Rattle.answer.proofs.Exits.{number_some}
use Rattle.journal.specs.StatusAnswer as Tell
use Rattle.journal.proofs.StatusLaws.{refused, tells}
use Rattle.journal.proofs.status.Goals as goal

pub returns-in-Ok : goal.returns-in-Ok
returns-in-Ok c =
    let found = c.in-Ok.ensures.book in
    ap₂ Tell.State found.state found.count ∙ tells _ _ (sym c.in-Ok.ensures.refusal)

pub returns-in-Err : goal.returns-in-Err
returns-in-Err c = refused _ _ c.in-Err.ensures.refusal (number_some _)
