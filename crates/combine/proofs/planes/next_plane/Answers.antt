-- `combine::planes::next_plane` meets its contract. Assumes nothing.
use Rattle.combine.proofs.SelectLaws.{inside_selected, next_plane}
use Rattle.combine.proofs.planes.next_plane.Goals as goal

pub double_add_sum-requires : goal.double_add_sum-requires
double_add_sum-requires c =
    let select = c.select-s in
    let pre = c.requires in
    inside_selected _ _ _ _ _ _ _ select.ensures _ pre.inside

pub returns : goal.returns
returns c =
    let select = c.select-s in
    let double-add-sum = c.double_add_sum in
    next_plane _ _ _ _ _ _ _ select.ensures _ double-add-sum.ensures
