-- `counts::addresses::node_end_byte` meets its contract. Assumes nothing.
use mathlib.Core.Path.{refl}
use native.Mathlib.Omega.{arith}
use Rattle.layout.proofs.Bounds.{area_length_le}
use Rattle.counts.proofs.Starts.{end_byte}
use Rattle.counts.proofs.addresses.node_end_byte.Goals as goal

pub overflow_add-result : goal.overflow_add-result
overflow_add-result c =
    let args = c.args in
    let pre = c.requires in
    let h = end_byte args.z.shape args.v pre.v_bound in let l = area_length_le _ c.args.z.in_ranges in omega arith

pub returns : goal.returns
returns c =
    let node-start-byte = c.node_start_byte in
    let args = c.args in
    let pre = c.requires in
    rw (node-start-byte.ensures.0, c.node_bytes.ensures.0) (refl, end_byte args.z.shape args.v pre.v_bound)
