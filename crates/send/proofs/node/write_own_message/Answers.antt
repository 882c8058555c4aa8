-- `send::node::write_own_message` meets its contract. Assumes nothing.
use Rattle.send.specs.Own.{own_payload}
use Rattle.send.proofs.Payloads.{length_payload}
use Rattle.send.proofs.Messages.{wrote_message_law}
use Rattle.send.proofs.node.write_own_message.Goals as goal

pub returns : goal.returns
returns c =
    let args = c.args in
    let pre = c.requires in
    let write-payload = c.write_payload in
    let message-header = c.message_header in
    let write-header = c.write_header in
    wrote_message_law args.z.shape args.w args.e args.number args.space.now
    (own_payload args.z.shape args.own.now args.w args.e) (length_payload args.z.shape args.own.now args.w args.e)
    pre.own_len.4 write-payload.ensures message-header.ensures write-header.ensures
