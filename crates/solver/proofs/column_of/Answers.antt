-- `solver::column_of` meets its contract. Assumes nothing.
use Rattle.solver.proofs.PivotRows.{told_alone, told_fixed, told_open}
use Rattle.solver.proofs.column_of.Goals as goal

pub returns-in_default : goal.returns-in_default
returns-in_default c = told_alone _ _ _ c.requires.pivots _ c.in_default.ensures.0

pub returns-in-None : goal.returns-in-None
returns-in-None c = told_fixed _ _ _ c.requires.pivots _ _ c.in-Some.ensures.0 c.in-None.ensures

pub returns-in-Some-other_of : goal.returns-in-Some-other_of
returns-in-Some-other_of c = told_open _ _ _ c.requires.pivots _ _ _ c.in-Some.ensures.0 c.in-Some-other_of.ensures
