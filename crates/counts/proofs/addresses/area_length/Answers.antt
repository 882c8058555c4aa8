-- `counts::addresses::area_length` meets its contract. Assumes nothing.
use mathlib.Core.Path.{refl}
use Rattle.layout.specs.Addresses.{area_length}
use Rattle.layout.proofs.Bounds.{area_length_le}
use Rattle.layout.proofs.AddressLaws.{start_all}
use Rattle.counts.proofs.addresses.area_length.Goals as goal

pub returns : goal.returns
unfolding area_length
returns c =
    let node-start = c.node_start in
    let args = c.args in
    let pre = c.args.z.in_ranges in
    rw (node-start.ensures.0, start_all args.z.shape) (refl, area_length_le _ (pre))
