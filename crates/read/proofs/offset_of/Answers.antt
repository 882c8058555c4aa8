-- `read::offset_of` meets its contract. Assumes nothing.
use mathlib.Core.Path.{sym, ◌∙◌}
use native.Mathlib.Omega.{arith}
use Rattle.layout.proofs.Bounds.{stripes_le}
use Rattle.read.proofs.Stands.{old_slot, kept_slot, before, after}
use Rattle.read.proofs.offset_of.Goals as goal

pub slot_address-requires-clause-g_bound : goal.slot_address-requires-clause-g_bound
slot_address-requires-clause-g_bound c = kept_slot _ _ _ c.new_stripe-w.ensures.1

pub data_node-requires-clause-g_bound : goal.data_node-requires-clause-g_bound
data_node-requires-clause-g_bound c = let l = stripes_le _ c.args.z.in_ranges in omega arith

pub slot_address-requires-else-has_moved-clause-g_bound : goal.slot_address-requires-else-has_moved-clause-g_bound
slot_address-requires-else-has_moved-clause-g_bound c = old_slot _ _ _ c.data_node.ensures.1 c.requires.g_bound.0

pub returns-then-has_moved : goal.returns-then-has_moved
returns-then-has_moved c =
    let there = c.requires.g_bound in
    after _ c.args.z.in_ranges _ _ _ there.0 there.1 _ _ _ _ (sym c.has_moved.ensures ∙ c.if-has_moved.true) c.new_stripe-w.ensures.0
    c.new_column.ensures.0 c.new_data_node.ensures.0 c.slot_address.ensures.0

pub returns-else-has_moved : goal.returns-else-has_moved
returns-else-has_moved c =
    let there = c.requires.g_bound in
    before _ c.args.z.in_ranges _ _ _ there.0 there.1 _ _ (sym c.has_moved.ensures ∙ c.if-has_moved.false) c.data_node.ensures.0
    c.slot_address-else-has_moved.ensures.0
