-- `report::answers::answer` meets its contract. Assumes nothing.
use mathlib.Core.Path.{sym, ◌∙◌}
use Rattle.answer.proofs.Exits.{number_some}
use Rattle.report.proofs.Lines.{answer_accepted, answer_refused}
use Rattle.report.proofs.answers.answer.Goals as goal

pub returns-in-Ok : goal.returns-in-Ok
returns-in-Ok c =
    let h = rw c.in-Ok.ensures.layout at c.shape_text.ensures in
    answer_accepted c.args.n c.args.k c.args.s (sym c.in-Ok.ensures.refusal) h

pub returns-in-Err : goal.returns-in-Err
returns-in-Err c =
    let refusal = c.in-Err.refusal in
    answer_refused c.args.n c.args.k c.args.s _ (c.number.ensures ∙ c.in-Err.ensures.refusal)
    (λ e. number_some refusal (sym c.number.ensures ∙ e)) c.refused.ensures
