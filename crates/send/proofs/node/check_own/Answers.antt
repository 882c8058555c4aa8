-- `send::node::check_own` meets its contract. Assumes nothing.
use mathlib.Core.Path.{sym}
use native.Mathlib.Omega.{arith}
use Rattle.answer.proofs.Exits.{passed, stops}
use Rattle.send.specs.Own.{own_refusal}
use Rattle.send.proofs.InParts.{stops_at_space, stops_at_stripe, goes_on_law, late_transfer, not_computed, was_released, none_left}
use Rattle.send.proofs.node.check_own.Goals as goal

pub returns-in_err-layout-clause-refusal : goal.returns-in_err-layout-clause-refusal
unfolding own_refusal
returns-in_err-layout-clause-refusal c =
    rw (passed _ _ c.from_residual.ensures.1) (stops _ _ _ c.in_err-layout.ensures.refusal)

pub returns-then-space_bytes-z-clause-refusal : goal.returns-then-space_bytes-z-clause-refusal
returns-then-space_bytes-z-clause-refusal c =
    let layout = c.in_ok-layout.ensures in
    stops_at_space _ _ _ _ _ _ _ layout.layout layout.refusal c.if-space_bytes-z.true

pub returns-in_err-check_stripe-clause-refusal : goal.returns-in_err-check_stripe-clause-refusal
returns-in_err-check_stripe-clause-refusal c =
    let layout = c.in_ok-layout.ensures in
    rw (passed _ _ c.from_residual-in_err-check_stripe.ensures.1)
    (stops_at_stripe _ _ _ _ _ _ _ layout.layout layout.refusal c.if-space_bytes-z.false _ c.in_err-check_stripe.ensures)

pub returns-then-e-transfer_count-clause-refusal : goal.returns-then-e-transfer_count-clause-refusal
returns-then-e-transfer_count-clause-refusal c =
    let layout = c.in_ok-layout.ensures in
    let count = rw layout.layout at c.transfer_count.ensures.0 in
    goes_on_law _ _ _ _ _ _ _ layout.layout layout.refusal c.if-space_bytes-z.false c.in_ok-check_stripe.ensures
    (late_transfer _ _ _ (omega (arith, count)))

pub returns-then-not-has_bit-clause-refusal : goal.returns-then-not-has_bit-clause-refusal
returns-then-not-has_bit-clause-refusal c =
    let layout = c.in_ok-layout.ensures in
    let count = rw layout.layout at c.transfer_count.ensures.0 in
    goes_on_law _ _ _ _ _ _ _ layout.layout layout.refusal c.if-space_bytes-z.false c.in_ok-check_stripe.ensures
    (not_computed _ _ _ (omega (arith, count)) (sym c.if-not-has_bit.ensures))

pub returns-then-has_bit-clause-refusal : goal.returns-then-has_bit-clause-refusal
returns-then-has_bit-clause-refusal c =
    let layout = c.in_ok-layout.ensures in
    let count = rw layout.layout at c.transfer_count.ensures.0 in
    goes_on_law _ _ _ _ _ _ _ layout.layout layout.refusal c.if-space_bytes-z.false c.in_ok-check_stripe.ensures
    (was_released _ _ _ (omega (arith, count)) (sym c.if-not-has_bit.ensures) (sym c.if-has_bit.ensures))

pub returns-clause-refusal : goal.returns-clause-refusal
returns-clause-refusal c =
    let layout = c.in_ok-layout.ensures in
    let count = rw layout.layout at c.transfer_count.ensures.0 in
    goes_on_law _ _ _ _ _ _ _ layout.layout layout.refusal c.if-space_bytes-z.false c.in_ok-check_stripe.ensures
    (none_left _ _ _ (omega (arith, count)) (sym c.if-not-has_bit.ensures) (sym c.if-has_bit.ensures))
