-- `deliver::node::check_own` meets its contract. Assumes nothing.
use mathlib.Core.Path.{sym, ◌∙◌}
use Rattle.base.proofs.Refusals.{or_else_pass}
use Rattle.answer.proofs.Exits.{passed, stops}
use Rattle.deliver.specs.Own.{own_refusal}
use Rattle.deliver.proofs.node.check_own.Goals as goal

pub returns-in_err-layout-clause-refusal : goal.returns-in_err-layout-clause-refusal
unfolding own_refusal
returns-in_err-layout-clause-refusal c =
    rw (passed _ _ c.from_residual.ensures.1) (stops _ _ _ c.in_err-layout.ensures.refusal)

pub returns-in_err-check_message-clause-refusal : goal.returns-in_err-check_message-clause-refusal
unfolding own_refusal
returns-in_err-check_message-clause-refusal c =
    rw (passed _ _ c.from_residual-in_err-check_message.ensures.1, or_else_pass _ _ (sym c.in_ok-layout.ensures.refusal))
    (rw c.in_ok-layout.ensures.layout at c.in_err-check_message.ensures)

pub returns-clause-refusal : goal.returns-clause-refusal
unfolding own_refusal
returns-clause-refusal c =
    (rw c.in_ok-layout.ensures.layout at c.in_ok-check_message.ensures) ∙ sym (or_else_pass _ _ (sym c.in_ok-layout.ensures.refusal))
