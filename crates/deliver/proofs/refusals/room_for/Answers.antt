-- `deliver::refusals::room_for` meets its contract. Assumes nothing.
use mathlib.Core.Path.{sym, ◌∙◌}
use Rattle.growth.specs.Deliver.{room_for}
use Rattle.deliver.proofs.refusals.room_for.Goals as goal

pub returns-then-has_bit : goal.returns-then-has_bit
unfolding room_for
returns-then-has_bit c =
    rw (sym c.accepted_ok.ensures ∙ c.if-accepted_ok.true, sym c.has_bit.ensures ∙ c.if-has_bit.true) c.if-has_bit.true

pub returns-else-has_bit : goal.returns-else-has_bit
unfolding room_for
returns-else-has_bit c =
    rw (
      sym c.accepted_ok.ensures ∙ c.if-accepted_ok.true,
      sym c.has_bit.ensures ∙ c.if-has_bit.false,
      ← c.count_of.ensures.0,
      ← c.all_transfers.ensures.0,
    )

pub returns-else-accepted_ok : goal.returns-else-accepted_ok
unfolding room_for
returns-else-accepted_ok c = rw (sym c.accepted_ok.ensures ∙ c.if-accepted_ok.false) c.if-accepted_ok.false
