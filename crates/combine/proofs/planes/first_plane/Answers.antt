-- `combine::planes::first_plane` meets its contract. Assumes nothing.
use Rattle.combine.proofs.SelectLaws.{inside_selected, start_plane}
use Rattle.combine.proofs.planes.first_plane.Goals as goal

pub set_sum-requires : goal.set_sum-requires
set_sum-requires c =
    let select = c.select-s in
    let pre = c.requires in
    inside_selected _ _ _ _ _ _ _ select.ensures _ pre.inside

pub returns : goal.returns
returns c = start_plane _ _ _ _ _ _ _ c.select-s.ensures _ c.set_sum.ensures
