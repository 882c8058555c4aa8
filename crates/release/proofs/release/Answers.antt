-- `release::release` meets its contract. Assumes nothing.
use mathlib.Core.Path.{sym, ap, ◌∙◌}
use native.Mathlib.Omega.{arith}
use Rattle.answer.specs.Cases.{of_step}
use Rattle.answer.proofs.Exits.{passed}
use Rattle.layout.specs.Transfers.{sender}
use Rattle.journal.specs.Journal.{journal_length}
use Rattle.lent.proofs.StoreLaws.{store_lent}
use Rattle.parts.proofs.HandedOn.{put_back}
use Rattle.parts.proofs.NodeCalls.{lent_layout}
use Rattle.release.specs.Own.{release_at_node}
use Rattle.release.proofs.Outcomes.{done_allowed, stops, handed_on}
use Rattle.release.proofs.release.Goals as goal

pub returns-in_err-layout : goal.returns-in_err-layout
returns-in_err-layout c =
    let args = c.args in
    rw (passed _ _ c.from_residual.ensures.1)
    (stops args.z args.area.now args.journal.now args.w _ c.in_err-layout.ensures.refusal)

pub slice_bounds-release_at_node-end : goal.slice_bounds-release_at_node-end
slice_bounds-release_at_node-end c =
    let lent = lent_layout c.in_ok-layout.ensures.layout c.in_ok-layout.ensures.refusal in
    omega (arith, lent.area_long)

pub keep_step-requires : goal.keep_step-requires
unfolding journal_length
keep_step-requires c = λ d.
    let lent = store_lent _ _ _ (sym c.in_ok-layout.ensures.refusal) in
    let ok = done_allowed _ _ _ _ _ _ c.release_at_node-step.ensures d in
    omega (arith, lent.journal_long, ok.stripe)

pub returns : goal.returns
returns c =
    let args = c.args in
    let layout = c.in_ok-layout.ensures.layout in
    let node = c.sender_of-node.ensures.0 ∙ ap (λ y. sender y args.w) layout in
    rw (ap of_step c.keep_step.ensures.0)
    (put_back args.z _ args.area.now args.journal.now args.w (λ own h r v. release_at_node args.z own h r v args.w) layout node
    c.node_start_byte-start.ensures.0 c.node_end_byte-end.ensures.0 c.header_in-h.ensures c.record_in-stripe.ensures
    c.release_at_node-step.ensures c.keep_step.ensures.1
    ∙ handed_on args.z args.area.now args.journal.now args.w (sym c.in_ok-layout.ensures.refusal))
