-- `deliver::refusals::damaged_word` meets its contract. Assumes nothing.
use mathlib.Core.Path.{sym, ap, ◌∙◌}
use mathlib.Core.Bool.{not}
use Rattle.deliver.proofs.InParts.{bit_there}
use Rattle.deliver.proofs.refusals.damaged_word.Goals as goal

pub room_for-requires : goal.room_for-requires
room_for-requires c =
    rw c.transfer_of.ensures.0
    (bit_there c.args.z.shape c.args.z.in_ranges c.args.m (sym c.requires.formed_value ∙ c.if-formed.true))

pub returns-then-formed : goal.returns-then-formed
returns-then-formed c =
    rw (sym c.requires.formed_value ∙ c.if-formed.true, ← c.transfer_of.ensures.0) (ap not c.room_for.ensures)

pub returns-else-formed : goal.returns-else-formed
returns-else-formed c = rw (sym c.requires.formed_value ∙ c.if-formed.false) c.if-formed.false
