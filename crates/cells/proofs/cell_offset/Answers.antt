-- `cells::cell_offset` meets its contract. Assumes nothing.
use native.Mathlib.Omega.{arith}
use Rattle.layout.proofs.AddressLaws.{slots_old}
use Rattle.cells.proofs.cell_offset.Goals as goal

pub slot_address-requires-clause-g_bound : goal.slot_address-requires-clause-g_bound
slot_address-requires-clause-g_bound c = omega (arith, slots_old c.args.z.shape c.args.v c.requires.g_bound.1)
