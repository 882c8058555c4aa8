-- `solver::row_of` meets its contract. Before turn i it has the last of the first i rows whose pivot is column c. Assumes nothing.
use mathlib.Core.Path.{sym, ap, ◌∙◌}
use native.Mathlib.Omega.{arith}
use Rattle.elimination.specs.Matrix.{from_one}
use Rattle.elimination.proofs.LastLaws.{last_none, last_more, last_skip, last_end, last_le}
use Rattle.solver.specs.Solution.{row_by}
use Rattle.solver.proofs.PivotRows.{eq_from_one}
use Rattle.solver.proofs.row_of.Goals as goal
use Rattle.solver.proofs.row_of.Goals.{then-eq, else-eq}

pub loop-i-init : goal.loop-i-init
loop-i-init c = last_none _

pub loop-i-preserved : goal.loop-i-preserved
loop-i-preserved c =
    let loop = c.loop-i in
    elim c.if-eq.branch [
      | then-eq w ↦ ap from_one w.row-is ∙ last_more _ _ (sym (w.if-eq.ensures ∙ eq_from_one _ _))
      | else-eq w ↦ ap from_one w.row-is ∙ last_skip _ _ (sym (w.if-eq.ensures ∙ eq_from_one _ _)) loop.invariant
    ]

pub returns : goal.returns
unfolding row_by
returns c =
    let last = last_end _ _ {m = 4} c.loop-i.invariant (omega arith) (omega arith) in
    (last, rw last (last_le _ 4))
