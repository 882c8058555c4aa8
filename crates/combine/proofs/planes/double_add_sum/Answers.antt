-- `combine::planes::double_add_sum` meets its contract. Assumes nothing.
use Rattle.combine.proofs.ColumnSums.{next_none, next_one, next_two, next_three, next_four}
use Rattle.combine.proofs.planes.double_add_sum.Goals as goal

pub returns-in-0 : goal.returns-in-0
returns-in-0 c = next_none _ _ _ _ c.in-0.is c.double_all.ensures

pub returns-in-1 : goal.returns-in-1
returns-in-1 c = next_one _ _ _ _ c.in-1.is c.double_add_one.ensures

pub returns-in-2 : goal.returns-in-2
returns-in-2 c = next_two _ _ _ _ c.in-2.is c.double_add_two.ensures

pub returns-in-3 : goal.returns-in-3
returns-in-3 c = next_three _ _ _ _ c.in-3.is c.double_add_three.ensures

pub returns-in_default : goal.returns-in_default
returns-in_default c = next_four _ _ _ _ c.double_add_four.ensures c.add_rest.ensures
