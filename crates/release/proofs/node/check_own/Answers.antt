-- `release::node::check_own` meets its contract. Assumes nothing.
use mathlib.Core.Path.{sym}
use Rattle.base.proofs.Refusals.{or_else_pass}
use Rattle.answer.proofs.Exits.{passed, stops}
use Rattle.lent.proofs.StoreLaws.{stripe_lent}
use Rattle.release.specs.Own.{own_refusal}
use Rattle.release.proofs.InParts.{passes}
use Rattle.release.proofs.node.check_own.Goals as goal

pub returns-in_err-layout-clause-refusal : goal.returns-in_err-layout-clause-refusal
unfolding own_refusal
returns-in_err-layout-clause-refusal c =
    rw (passed _ _ c.from_residual.ensures.1) (stops _ _ _ c.in_err-layout.ensures.refusal)

pub returns-in_err-check_stripe-clause-refusal : goal.returns-in_err-check_stripe-clause-refusal
unfolding own_refusal
returns-in_err-check_stripe-clause-refusal c =
    rw (passed _ _ c.from_residual-in_err-check_stripe.ensures.1, or_else_pass _ _ (sym c.in_ok-layout.ensures.refusal))
    (stops _ _ _ (rw c.in_ok-layout.ensures.layout at c.in_err-check_stripe.ensures))

pub returns-then-not-has_bit-clause-refusal : goal.returns-then-not-has_bit-clause-refusal
returns-then-not-has_bit-clause-refusal c =
    let later = passes _ _ _ _ _ c.in_ok-layout.ensures.layout c.in_ok-layout.ensures.refusal c.in_ok-check_stripe.ensures in
    rw (later, sym c.if-not-has_bit.ensures)

pub all_receipted-requires : goal.all_receipted-requires
all_receipted-requires c = record { word_value = (stripe_lent _ _ _ _ _ (sym c.in_ok-check_stripe.ensures)).word_ok }

pub returns-then-not-all_receipted-clause-refusal : goal.returns-then-not-all_receipted-clause-refusal
returns-then-not-all_receipted-clause-refusal c =
    let layout = c.in_ok-layout.ensures.layout in
    let later = passes _ _ _ _ _ layout c.in_ok-layout.ensures.refusal c.in_ok-check_stripe.ensures in
    rw (later, sym c.if-not-has_bit.ensures, ← layout, sym c.if-not-all_receipted.ensures)

pub returns-clause-refusal : goal.returns-clause-refusal
returns-clause-refusal c =
    let layout = c.in_ok-layout.ensures.layout in
    let later = passes _ _ _ _ _ layout c.in_ok-layout.ensures.refusal c.in_ok-check_stripe.ensures in
    rw (later, sym c.if-not-has_bit.ensures, ← layout, sym c.if-not-all_receipted.ensures)
