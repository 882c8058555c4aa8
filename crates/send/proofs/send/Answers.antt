-- `send::send` meets its contract. Assumes nothing.
use mathlib.Core.Path.{sym}
use Rattle.answer.proofs.Exits.{passed}
use Rattle.parts.proofs.NodeCalls.{lent_layout}
use Rattle.send.proofs.Outcomes.{stops, sent_on}
use Rattle.send.proofs.send.Goals as goal

pub returns-in_err-layout : goal.returns-in_err-layout
returns-in_err-layout c =
    let args = c.args in
    rw (passed _ _ c.from_residual.ensures.1)
    (stops args.z args.area.now args.journal.now args.w args.e args.space.now _ c.in_err-layout.ensures.refusal)

pub node_part-own-requires-clause-area_len : goal.node_part-own-requires-clause-area_len
node_part-own-requires-clause-area_len c = (lent_layout c.in_ok-layout.ensures.layout c.in_ok-layout.ensures.refusal).area_long

pub returns : goal.returns
returns c =
    let args = c.args in
    sent_on args.z args.area.now args.journal.now args.w args.e args.space.now (sym c.in_ok-layout.ensures.refusal)
    c.in_ok-layout.ensures.layout c.sender_of-node.ensures.0 c.node_part-own.ensures c.header_in-h.ensures c.record_in-stripe.ensures
    c.send_at_node.ensures
