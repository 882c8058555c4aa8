-- `solver::solve` meets its contract. Assumes nothing.
use Rattle.solver.specs.Solution.{solved}
use Rattle.solver.proofs.solve.Goals as goal

pub returns : goal.returns
unfolding solved
returns c = rw (← c.check_matrix.ensures) c.reduce.ensures
