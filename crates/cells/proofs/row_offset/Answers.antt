-- `cells::row_offset` meets its contract. Assumes nothing.
use mathlib.Core.Path.{refl}
use native.Mathlib.Omega.{arith}
use Rattle.layout.proofs.Bounds.{stripes_le}
use Rattle.layout.proofs.AddressLaws.{slots_old}
use Rattle.cells.proofs.ColumnLaws.{row_inside}
use Rattle.cells.proofs.row_offset.Goals as goal

pub row_node-requires-clause-g_bound : goal.row_node-requires-clause-g_bound
row_node-requires-clause-g_bound c = omega (arith, stripes_le _ c.args.z.in_ranges)

pub slot_address-requires-clause-g_bound : goal.slot_address-requires-clause-g_bound
slot_address-requires-clause-g_bound c = omega (arith, slots_old c.args.z.shape c.row_node.result c.row_node.ensures.1)

pub returns : goal.returns
returns c =
    rw (c.slot_address.ensures.0, c.row_node.ensures.0) (refl, row_inside _ c.args.z.in_ranges _ c.requires.g_bound.0 c.args.j)
