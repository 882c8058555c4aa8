-- `receipt::node::take_receipt_at_node` meets its contract. Assumes nothing.
use mathlib.Core.Path.{refl, sym, ◌∙◌}
use Rattle.answer.proofs.Exits.{passed, number_some}
use Rattle.receipt.proofs.Outcomes.{transfer_small, refuses, repeats, acts}
use Rattle.receipt.proofs.node.take_receipt_at_node.Goals as goal

pub returns-in_err-check_own : goal.returns-in_err-check_own
returns-in_err-check_own c =
    rw (passed _ _ c.from_residual.ensures.1)
    (refuses _ _ _ _ _ c.requires refl c.in_err-check_own.ensures (number_some _))

pub is_receipted-requires : goal.is_receipted-requires
is_receipted-requires c =
    transfer_small c.args.z c.args.h c.args.stripe.now c.args.node c.args.bytes.now
    c.requires c.transfer_of-e.ensures.0 c.in_ok-check_own.ensures refl

pub returns-then-is_receipted : goal.returns-then-is_receipted
returns-then-is_receipted c =
    repeats _ _ _ _ _ c.requires c.transfer_of-e.ensures.0 c.in_ok-check_own.ensures refl
    (sym c.is_receipted.ensures ∙ c.if-is_receipted.true)

pub receipt-requires : goal.receipt-requires
receipt-requires c =
    transfer_small c.args.z c.args.h c.args.stripe.now c.args.node c.args.bytes.now
    c.requires c.transfer_of-e.ensures.0 c.in_ok-check_own.ensures refl

pub returns : goal.returns
returns c =
    acts _ _ _ _ _ c.requires c.transfer_of-e.ensures.0 c.in_ok-check_own.ensures refl
    (sym c.is_receipted.ensures ∙ c.if-is_receipted.false) c.receipt.ensures
