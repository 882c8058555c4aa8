-- `elimination::add_row` meets its contract. Before turn p the first p places are added. Assumes nothing.
use native.Mathlib.Omega.{arith}
use Rattle.area.proofs.Writes.{writes_none}
use Rattle.area.proofs.Loops.{turn, here, done}
use Rattle.elimination.specs.Matrix.{entry, with_added}
use Rattle.elimination.proofs.add_row.Goals as goal

pub loop-p-init : goal.loop-p-init
loop-p-init c = writes_none _ _ _

pub loop-p-preserved : goal.loop-p-preserved
unfolding entry
loop-p-preserved c =
    let sofar = c.loop-p.invariant in
    turn _ _ _ _ sofar (rw (here _ _ _ _ sofar, c.mul.ensures))

pub returns : goal.returns
unfolding with_added
returns c = done _ _ _ _ c.loop-p.invariant (omega arith) (omega arith)
