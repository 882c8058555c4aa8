-- `counts::addresses::node_start_byte` meets its contract. Assumes nothing.
use mathlib.Core.Path.{refl}
use Rattle.counts.proofs.Starts.{start_byte}
use Rattle.counts.proofs.addresses.node_start_byte.Goals as goal

pub returns : goal.returns
returns c =
    let node-start = c.node_start in
    let args = c.args in
    let pre = c.requires in
    rw node-start.ensures.0 (refl, start_byte args.z.shape args.v pre.v_bound)
