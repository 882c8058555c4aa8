-- `release::node::move_own` meets its contract. Assumes nothing.
use mathlib.Core.Path.{sym, ◌∙◌}
use mathlib.Core.Logic.{inr}
use native.Mathlib.Omega.{arith}
use Rattle.parts.proofs.Parts.{slot_fits}
use Rattle.release.proofs.OwnSlots.{kept_there, byte_fits, apart, stays, moved}
use Rattle.release.proofs.node.move_own.Goals as goal

pub overflow_mul-w : goal.overflow_mul-w
overflow_mul-w c = byte_fits _ c.args.z.in_ranges _ (kept_there _ _ c.requires.own_len.1)

pub copy_within-requires-clause-b_in_bounds : goal.copy_within-requires-clause-b_in_bounds
copy_within-requires-clause-b_in_bounds c =
    let long = c.requires.own_len in
    (slot_fits _ _ _ (kept_there _ _ long.1) long.0, slot_fits _ _ _ c.source_slot-from.ensures.1 long.0)

pub copy_within-requires-clause-fact : goal.copy_within-requires-clause-fact
copy_within-requires-clause-fact c =
    inr (apart _ c.args.z.in_ranges _ c.requires.own_len.1 _ _ (omega arith) c.source_slot-from.ensures.0)

pub returns-then-is_swapped : goal.returns-then-is_swapped
returns-then-is_swapped c =
    c.copy_within.ensures ∙ moved _ _ _ _ _ (sym c.if-is_swapped.ensures) c.swap_index.ensures.0 c.source_slot-from.ensures.0

pub returns-else-is_swapped : goal.returns-else-is_swapped
returns-else-is_swapped c = stays _ _ _ (sym c.if-is_swapped.ensures)
