-- `counts::addresses::slot_address` meets its contract. Assumes nothing.
use mathlib.Core.Path.{refl}
use native.Mathlib.Omega.{arith}
use Rattle.layout.specs.Addresses.{address}
use Rattle.counts.proofs.Starts.{address_le}
use Rattle.counts.proofs.addresses.slot_address.Goals as goal

pub overflow_add-result : goal.overflow_add-result
unfolding address
overflow_add-result c =
    let pre = c.requires in
    let args = c.args in
    let h = address_le _ c.args.z.in_ranges args.v args.g pre.v_bound pre.g_bound in omega arith

pub returns : goal.returns
unfolding address
returns c =
    let pre = c.requires in
    let args = c.args in
    rw c.node_start.ensures.0 (refl, address_le _ c.args.z.in_ranges args.v args.g pre.v_bound pre.g_bound)
