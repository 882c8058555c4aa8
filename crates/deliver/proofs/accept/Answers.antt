-- `deliver::accept` meets its contract. Assumes nothing.
use mathlib.Core.Path.{refl, sym, ap, ◌∙◌}
use native.Mathlib.Omega.{arith}
use Rattle.answer.proofs.Exits.{passed}
use Rattle.journal.specs.Journal.{journal_length}
use Rattle.wire.specs.Headers.{stripe_of}
use Rattle.lent.proofs.StoreLaws.{store_lent}
use Rattle.parts.proofs.NodeCalls.{lent_layout}
use Rattle.deliver.proofs.InParts.{node_there}
use Rattle.deliver.proofs.Outcomes.{done_allowed, stops, no_part, put_back}
use Rattle.deliver.proofs.accept.Goals as goal

pub returns-in_err-layout : goal.returns-in_err-layout
returns-in_err-layout c =
    let args = c.args in
    rw (passed _ _ c.from_residual.ensures.1)
    (stops args.z args.area.now args.journal.now args.node args.message.now args.space_bytes _ c.in_err-layout.ensures.refusal)

pub returns-in_err-check_message : goal.returns-in_err-check_message
returns-in_err-check_message c =
    let args = c.args in
    let layout = c.in_ok-layout.ensures in
    rw (passed _ _ c.from_residual-in_err-check_message.ensures.1)
    (no_part args.z args.area.now args.journal.now args.node args.message.now args.space_bytes
    (sym layout.refusal) c.header_in-h.ensures c.requires c.stripe_of-w.ensures.0 c.record_in-stripe.ensures _
    (rw layout.layout at c.in_err-check_message.ensures))

pub returns-then-node-z : goal.returns-then-node-z
returns-then-node-z c =
    let layout = c.in_ok-layout.ensures in
    let there = node_there _ (store_lent _ _ _ (sym layout.refusal)).ok _ _ _ _ _ _ (rw layout.layout at c.in_ok-check_message.ensures) in
    absurd (omega (arith, there, c.if-node-z.true))

pub slice_bounds-own-end : goal.slice_bounds-own-end
slice_bounds-own-end c =
    let lent = lent_layout c.in_ok-layout.ensures.layout c.in_ok-layout.ensures.refusal in
    omega (arith, lent.area_long)

pub returns-in_err-step : goal.returns-in_err-step
returns-in_err-step c =
    let args = c.args in
    let layout = c.in_ok-layout.ensures in
    rw (passed _ _ c.from_residual-in_err-step.ensures.1)
    (put_back args.z args.area.now args.journal.now args.node args.message.now args.space_bytes
    (sym layout.refusal) c.if-node-z.false layout.layout c.node_start_byte-start.ensures.0 c.node_end_byte.ensures.0 c.header_in-h.ensures
    c.requires c.stripe_of-w.ensures.0 c.record_in-stripe.ensures c.in_err-step.ensures refl)

pub keep_delivery-requires : goal.keep_delivery-requires
unfolding journal_length
keep_delivery-requires c = λ d.
    let lent = store_lent _ _ _ (sym c.in_ok-layout.ensures.refusal) in
    let ok = done_allowed _ _ _ _ _ _ _ c.in_ok-step.ensures d in
    omega (arith, lent.journal_long, ok.stripe, c.stripe_of-w.ensures.0 ∙ ap stripe_of c.requires)

pub returns : goal.returns
returns c =
    let args = c.args in
    let layout = c.in_ok-layout.ensures in
    put_back args.z args.area.now args.journal.now args.node args.message.now args.space_bytes
    (sym layout.refusal) c.if-node-z.false layout.layout c.node_start_byte-start.ensures.0 c.node_end_byte.ensures.0 c.header_in-h.ensures
    c.requires c.stripe_of-w.ensures.0 c.record_in-stripe.ensures c.in_ok-step.ensures c.keep_delivery.ensures
