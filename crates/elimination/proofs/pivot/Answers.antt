-- `elimination::pivot` meets its contract: before turn j the rows before j are done. Assumes nothing.
use native.Mathlib.Omega.{arith}
use Rattle.elimination.proofs.StepLaws.{pivoted_none, pivoted_all}
use Rattle.elimination.specs.Matrix.{entry}
use Rattle.elimination.proofs.pivot.Goals as goal

pub inverse-requires : goal.inverse-requires
unfolding entry
inverse-requires c = omega arith

pub pivot_row-requires-clause-q_bound : goal.pivot_row-requires-clause-q_bound
unfolding entry
pivot_row-requires-clause-q_bound c =
    let inverse = c.inverse in
    (omega arith, omega arith, rw (← inverse.ensures) c.scaled_row-u.ensures, rw (← inverse.ensures) (omega arith))

pub loop-j-init : goal.loop-j-init
loop-j-init c = (pivoted_none _ _ _, omega arith)

pub returns : goal.returns
returns c = pivoted_all _ _ _ _ _ c.loop-j.invariant.0 (omega arith) (omega arith)
