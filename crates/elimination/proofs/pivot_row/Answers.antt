-- `elimination::pivot_row` meets its contract. Assumes nothing.
use native.Mathlib.Omega.{arith}
use Rattle.elimination.proofs.StepLaws.{row_own, row_other, row_kept}
use Rattle.elimination.specs.Matrix.{entry}
use Rattle.elimination.proofs.pivot_row.Goals as goal

pub returns-then-j-i : goal.returns-then-j-i
returns-then-j-i c =
    let pre = c.requires in
    row_own _ _ _ _ pre.q_bound.2 _ _ pre.pivoted_to (omega arith) (omega arith) (omega arith) c.copy.ensures

pub returns-then-factor-ne0 : goal.returns-then-factor-ne0
unfolding entry
returns-then-factor-ne0 c =
    let pre = c.requires in
    row_other _ _ _ _ pre.q_bound.2 _ _ pre.pivoted_to (omega arith) (omega arith) (omega arith) c.add_row.ensures

pub returns-else-factor-ne0 : goal.returns-else-factor-ne0
unfolding entry
returns-else-factor-ne0 c =
    let pre = c.requires in
    row_kept _ _ _ _ _ pre.pivoted_to (omega arith) (omega arith) pre.q_bound.3 (omega arith)
