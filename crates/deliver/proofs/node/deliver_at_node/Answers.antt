-- `deliver::node::deliver_at_node` meets its contract. Assumes nothing.
use Rattle.deliver.proofs.Outcomes.{has_space, receipted_at_node}
use Rattle.deliver.proofs.node.deliver_at_node.Goals as goal

pub write_receipt-requires : goal.write_receipt-requires
write_receipt-requires c =
    let args = c.args in
    has_space args.z args.own.now args.h.now args.stripe.now args.node args.message.now _ c.accept_at_node-answer.ensures

pub returns : goal.returns
returns c =
    let args = c.args in
    receipted_at_node args.z args.own.now args.h.now args.stripe.now args.node args.message.now args.receipt.now
    c.accept_at_node-answer.ensures c.words_in-m.ensures c.write_receipt.ensures
