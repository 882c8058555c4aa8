-- `combine::planes::set_sum` meets its contract. Assumes nothing.
use mathlib.Core.Path.{sym, ◌∙◌}
use Rattle.area.proofs.Blocks.{put_whole, length_zeros}
use Rattle.combine.proofs.ColumnSums.{first_none, first_one, first_more}
use Rattle.combine.proofs.planes.set_sum.Goals as goal

pub returns-in-0 : goal.returns-in-0
returns-in-0 c = first_none _ _ _ _ c.in-0.is (c.zero.ensures ∙ put_whole _ _ (sym (length_zeros _)))

pub returns-in-1 : goal.returns-in-1
returns-in-1 c = first_one _ _ _ _ c.in-1.is c.set_one.ensures

pub returns-in_default : goal.returns-in_default
returns-in_default c = first_more _ _ _ _ c.set_two.ensures c.add_rest.ensures
