-- `elimination::scaled_row` meets its contract. Before turn p the first p entries are stored. Assumes nothing.
use mathlib.Core.Path.{refl}
use native.Mathlib.Omega.{arith}
use lib.ListN.{length-set}
use Rattle.area.proofs.Writes.{writes_none}
use Rattle.area.proofs.Loops.{turn0, done0}
use Rattle.elimination.specs.Matrix.{entry, scaled_row}
use Rattle.elimination.proofs.scaled_row.Goals as goal

pub loop-p-init : goal.loop-p-init
loop-p-init c = (writes_none _ _ _, refl)

pub loop-p-preserved : goal.loop-p-preserved
unfolding entry
loop-p-preserved c = (turn0 _ _ _ c.loop-p.invariant.0 c.mul.ensures, simp length-set (omega arith))

pub returns : goal.returns
unfolding scaled_row
returns c = done0 _ _ _ c.loop-p.invariant.0 (omega arith) (omega arith)
