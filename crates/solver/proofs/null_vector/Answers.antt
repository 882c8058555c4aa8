-- `solver::null_vector` meets its contract. Before turn p the first p data are stored. Assumes nothing.
use mathlib.Core.Path.{refl}
use native.Mathlib.Omega.{arith}
use lib.ListN.{length-set}
use Rattle.area.proofs.Writes.{writes_none}
use Rattle.area.proofs.Loops.{turn0, done0}
use Rattle.solver.specs.Solution.{null_vector}
use Rattle.solver.proofs.null_vector.Goals as goal

pub loop-p-init : goal.loop-p-init
loop-p-init c = (writes_none _ _ _, refl)

pub loop-p-preserved : goal.loop-p-preserved
loop-p-preserved c = (turn0 _ _ _ c.loop-p.invariant.0 c.null_entry.ensures, simp length-set (omega arith))

pub returns : goal.returns
unfolding null_vector
returns c = done0 _ _ _ c.loop-p.invariant.0 (omega arith) (omega arith)
