-- `deliver::node::accept_at_node` meets its contract. Assumes nothing.
use mathlib.Core.Path.{sym, ◌∙◌}
use native.Mathlib.Omega.{arith}
use Rattle.answer.proofs.Exits.{passed}
use Rattle.deliver.proofs.Outcomes.{slot_ready, bit_small, count_low, refuses, repeats, acts}
use Rattle.deliver.proofs.node.accept_at_node.Goals as goal

pub returns-in_err-layout : goal.returns-in_err-layout
returns-in_err-layout c =
    let args = c.args in
    rw (passed _ _ c.from_residual.ensures.1)
    (refuses args.z args.own.now args.h.now args.stripe.now args.node args.message.now args.space_bytes c.requires _
    c.in_err-layout.ensures.refusal)

pub is_accepted-requires : goal.is_accepted-requires
is_accepted-requires c =
    let args = c.args in
    let small = bit_small args.z args.own.now args.h.now args.stripe.now args.node args.message.now args.space_bytes c.requires
    c.transfer_of-e.ensures.0 c.in_ok-layout.ensures.refusal in
    omega (arith, small)

pub returns-then-is_accepted : goal.returns-then-is_accepted
returns-then-is_accepted c =
    let args = c.args in
    repeats args.z args.own.now args.h.now args.stripe.now args.node args.message.now args.space_bytes c.requires
    c.transfer_of-e.ensures.0 c.in_ok-layout.ensures.refusal (sym c.is_accepted.ensures ∙ c.if-is_accepted.true)

pub deliver_own-requires : goal.deliver_own-requires
deliver_own-requires c =
    let args = c.args in
    let layout = c.in_ok-layout.ensures in
    let ready = slot_ready args.z args.own.now args.h.now args.stripe.now args.node args.message.now args.space_bytes c.requires
    c.transfer_of-e.ensures.0 layout.refusal c.stripe_of.ensures.0 in
    record { w_bound = rw layout.layout ready }

pub counted_up-requires : goal.counted_up-requires
counted_up-requires c =
    let args = c.args in
    count_low args.z args.own.now args.h.now args.stripe.now args.node args.message.now args.space_bytes c.requires
    c.transfer_of-e.ensures.0 c.in_ok-layout.ensures.refusal (sym c.is_accepted.ensures ∙ c.if-is_accepted.false)

pub accept-requires : goal.accept-requires
accept-requires c =
    let args = c.args in
    let small = bit_small args.z args.own.now args.h.now args.stripe.now args.node args.message.now args.space_bytes c.requires
    c.transfer_of-e.ensures.0 c.in_ok-layout.ensures.refusal in
    omega (arith, small)

pub returns : goal.returns
returns c =
    let args = c.args in
    let layout = c.in_ok-layout.ensures in
    acts args.z args.own.now args.h.now args.stripe.now args.node args.message.now args.space_bytes c.requires
    c.transfer_of-e.ensures.0 layout.refusal (sym c.is_accepted.ensures ∙ c.if-is_accepted.false) c.stripe_of.ensures.0
    (rw layout.layout at c.deliver_own.ensures) c.counted_up.ensures c.accept.ensures
