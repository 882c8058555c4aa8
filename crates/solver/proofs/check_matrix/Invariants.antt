-- `solver::check_matrix` meets its contract. Before turn j the rows before j are stored. Assumes nothing.
use mathlib.Core.Path.{◌≡◌}
use lib.ListN.{length}
use Rattle.elimination.specs.Matrix.{entry}
use Rattle.solver.specs.Solution.{CheckedTo}
use Rattle.solver.proofs.check_matrix.Given as goal

abbrev pub invariant-loop-j : goal.invariant-loop-j
invariant-loop-j l = CheckedTo (entry l.rows) l.n l.k l.losses l.j l.m × (length l.m ≡ 80)
