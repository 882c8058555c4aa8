-- `solver::coefficients` meets its contract. Before turn p the first p coefficients are stored. Assumes nothing.
use mathlib.Core.Path.{refl}
use native.Mathlib.Omega.{arith}
use lib.ListN.{length-set}
use borrow.Author.Tests.{eq-eqb, ne_eqb}
use Rattle.area.proofs.Writes.{writes_none}
use Rattle.area.proofs.Loops.{turn0, done0}
use Rattle.elimination.specs.Matrix.{entry}
use Rattle.solver.specs.Solution.{row_without}
use Rattle.solver.proofs.coefficients.Goals as goal
use Rattle.solver.proofs.coefficients.Goals.{then-p-c, else-p-c}

pub loop-p-init : goal.loop-p-init
loop-p-init c = (writes_none _ _ _, refl)

pub loop-p-preserved : goal.loop-p-preserved
unfolding entry
loop-p-preserved c =
    let loop = c.loop-p in
    let place = c.args.c in (
      turn0 _ _ _ loop.invariant.0
          (elim c.if-p-c.branch [
            | then-p-c w ↦ rw (eq-eqb loop.p place (omega arith)) w.u-is
            | else-p-c w ↦ rw (ne_eqb loop.p place (omega arith)) w.u-is
          ]),
      simp length-set (omega arith),
    )

pub returns : goal.returns
unfolding row_without
returns c = done0 _ _ _ c.loop-p.invariant.0 (omega arith) (omega arith)
