-- `deliver::deliver` meets its contract. Assumes nothing.
use Rattle.deliver.proofs.Outcomes.{space_long, receipted}
use Rattle.deliver.proofs.deliver.Goals as goal

pub write_receipt-requires : goal.write_receipt-requires
write_receipt-requires c =
    let args = c.args in
    space_long args.z args.area.now args.journal.now args.node args.message.now args.receipt.now c.accept-answer.ensures

pub returns : goal.returns
returns c =
    let args = c.args in
    receipted args.z args.area.now args.journal.now args.node args.message.now args.receipt.now c.accept-answer.ensures
    c.words_in-m.ensures c.write_receipt.ensures
