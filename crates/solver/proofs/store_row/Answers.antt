-- `solver::store_row` meets its contract. Assumes nothing.
use native.Mathlib.Omega.{arith}
use Rattle.solver.proofs.CheckRows.{row_missing, row_lost, row_stored}
use Rattle.solver.proofs.store_row.Goals as goal
use Rattle.solver.proofs.store_row.Goals.{else-k-j-via-then-k-j+else-losses-k-eq0, else-k-j-via-else-k-j}

pub returns-then-losses-k-eq0 : goal.returns-then-losses-k-eq0
returns-then-losses-k-eq0 c =
    row_stored _ _ _ _ _ _ c.requires.checked_to (omega arith) (omega arith) (omega arith) (omega arith) (omega arith) c.copy.ensures

pub returns-else-k-j : goal.returns-else-k-j
returns-else-k-j c =
    elim c.else-k-j.branch [
      | else-k-j-via-then-k-j+else-losses-k-eq0 w ↦
          row_lost _ _ _ _ _ _ c.requires.checked_to (omega arith) w.if-losses-k-eq0.false (omega arith)
      | else-k-j-via-else-k-j w ↦ row_missing _ _ _ _ _ _ c.requires.checked_to (omega arith) (omega arith)
    ]
