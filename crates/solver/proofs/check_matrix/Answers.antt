-- `solver::check_matrix` meets its contract. Before turn j the rows before j are stored. Assumes nothing.
use mathlib.Core.Path.{refl}
use native.Mathlib.Omega.{arith}
use Rattle.solver.proofs.CheckRows.{checked_none, checked_all}
use Rattle.solver.proofs.check_matrix.Goals as goal

pub loop-j-init : goal.loop-j-init
loop-j-init c = (checked_none _ _ _ _, refl)

pub returns : goal.returns
returns c = checked_all _ _ _ _ _ _ c.loop-j.invariant.0 (omega arith) (omega arith)
