-- `send::node::send_at_node` meets its contract. Assumes nothing.
use mathlib.Core.Path.{sym}
use lib.ListN.{length}
use Rattle.answer.proofs.Exits.{passed}
use Rattle.send.proofs.Outcomes.{own_allowed, refuses, acts}
use Rattle.send.proofs.node.send_at_node.Goals as goal

pub returns-in_err-layout : goal.returns-in_err-layout
returns-in_err-layout c =
    let args = c.args in
    rw (passed _ _ c.from_residual.ensures.1)
    (refuses args.z args.own.now args.h args.stripe args.node args.w args.e args.space.now _ c.in_err-layout.ensures.refusal)

pub write_own_message-requires : goal.write_own_message-requires
write_own_message-requires c =
    let args = c.args in
    let ok =
    own_allowed args.z (length args.own.now) (length args.space.now) args.h args.stripe.progress args.node args.w args.e
    (sym c.in_ok-layout.ensures.refusal) in
    record {
      own_len =
          rw c.in_ok-layout.ensures.layout (ok.own_long, c.number_of.ensures.1, ok.stripe, ok.transfer, ok.space_long);
    }

pub returns : goal.returns
returns c =
    let args = c.args in
    acts args.z args.own.now args.h args.stripe args.node args.w args.e args.space.now c.in_ok-layout.ensures.refusal
    c.number_of.ensures.0 (rw c.in_ok-layout.ensures.layout at c.write_own_message.ensures)
