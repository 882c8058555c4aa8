-- `elimination::reduce` meets its contract. Before turn i the first i rows are reduced. Assumes nothing.
use mathlib.Core.Path.{◌∙◌}
use native.Mathlib.Omega.{arith}
use Rattle.base.proofs.Runs.{run_start, run_turn, run_end}
use Rattle.elimination.specs.Matrix.{reduced}
use Rattle.elimination.proofs.StepLaws.{pivot_ok, step_taken, step_left}
use Rattle.elimination.proofs.reduce.Goals as goal
use Rattle.elimination.proofs.reduce.Goals.{in-Some, in_default}

pub loop-i-init : goal.loop-i-init
loop-i-init c = run_start _ _

pub pivot-m-requires : goal.pivot-m-requires
pivot-m-requires c =
    let ok = pivot_ok _ _ _ _ c.in-Some.q c.in-Some.ensures in
    (omega arith, omega arith, ok.1)

pub loop-i-preserved : goal.loop-i-preserved
loop-i-preserved c =
    run_turn _ _ _ c.loop-i.invariant
    (elim c.match-pivot_of.branch [
      | in-Some w ↦ w.m-is ∙ step_taken _ _ _ _ w.in-Some.q w.in-Some.ensures w.pivot-m.ensures
      | in_default w ↦ w.m-is ∙ step_left _ _ _ _ w.in_default.ensures
    ])

pub returns : goal.returns
unfolding reduced
returns c = run_end _ _ _ c.loop-i.invariant (omega arith) (omega arith)
