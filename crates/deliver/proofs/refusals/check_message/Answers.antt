-- `deliver::refusals::check_message` meets its contract. Assumes nothing.
use borrow.Author.Tests.{eq-eqb, ne_eqb}
use Rattle.deliver.specs.Arrival.{arrival_refusal, message_refusal}
use Rattle.deliver.proofs.refusals.check_message.Goals as goal
use Rattle.deliver.proofs.refusals.check_message.Goals.{then-message_bytes-z-via-then-message_bytes-z}
use Rattle.deliver.proofs.refusals.check_message.Goals.{then-message_bytes-z-via-else-message_bytes-z+then-space_bytes-ne16}

pub returns-then-message_bytes-z : goal.returns-then-message_bytes-z
unfolding message_refusal
returns-then-message_bytes-z c =
    elim c.then-message_bytes-z.branch [
      | then-message_bytes-z-via-then-message_bytes-z w ↦ rw (ne_eqb _ _ w.if-message_bytes-z.true)
      | then-message_bytes-z-via-else-message_bytes-z+then-space_bytes-ne16 w ↦
          rw (eq-eqb _ _ w.if-message_bytes-z.false, ne_eqb _ _ w.if-space_bytes-ne16.true)
    ]

pub returns : goal.returns
unfolding message_refusal arrival_refusal
returns c =
    rw (eq-eqb _ _ c.if-message_bytes-z.false, eq-eqb _ _ c.if-space_bytes-ne16.false) c.check_arrival.ensures
