-- `compute::node::check_own` meets its contract. Assumes nothing.
use mathlib.Core.Path.{sym, ◌∙◌}
use Rattle.base.proofs.Refusals.{or_else_pass}
use Rattle.answer.proofs.Exits.{passed, stops}
use Rattle.compute.specs.Own.{own_refusal}
use Rattle.compute.proofs.node.check_own.Goals as goal

pub returns-in_err-layout-clause-refusal : goal.returns-in_err-layout-clause-refusal
unfolding own_refusal
returns-in_err-layout-clause-refusal c =
    rw (passed _ _ c.from_residual.ensures.1) (stops _ _ _ c.in_err-layout.ensures.refusal)

pub returns-in_err-check_stripe-clause-refusal : goal.returns-in_err-check_stripe-clause-refusal
unfolding own_refusal
returns-in_err-check_stripe-clause-refusal c =
    rw (passed _ _ c.from_residual-in_err-check_stripe.ensures.1, or_else_pass _ _ (sym c.in_ok-layout.ensures.refusal))
    (rw c.in_ok-layout.ensures.layout at c.in_err-check_stripe.ensures)

pub returns-clause-refusal : goal.returns-clause-refusal
unfolding own_refusal
returns-clause-refusal c =
    (rw c.in_ok-layout.ensures.layout at c.in_ok-check_stripe.ensures) ∙ sym (or_else_pass _ _ (sym c.in_ok-layout.ensures.refusal))
