-- `wire::forms::for_another_node` meets its contract. Assumes nothing.
use native.Mathlib.Omega.{arith}
use Rattle.wire.proofs.FormLaws.{message_is}
use Rattle.wire.proofs.forms.for_another_node.Goals as goal

pub receiver_of-requires-clause-e_bound : goal.receiver_of-requires-clause-e_bound
receiver_of-requires-clause-e_bound c =
    let f = message_is _ _ c.requires.h_value in let l = f.transfer.transfer in let q = c.transfer_of.ensures.0 in omega arith
