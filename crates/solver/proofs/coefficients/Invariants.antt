-- `solver::coefficients` meets its contract. Before turn p the first p coefficients are stored. Assumes nothing.
use mathlib.Core.Path.{◌≡◌}
use lib.Dec.{eqb}
use lib.ListN.{length}
use Rattle.base.specs.Tests.{if}
use Rattle.area.specs.Area.{writes}
use Rattle.elimination.specs.Matrix.{entry}
use Rattle.solver.proofs.coefficients.Given as goal

abbrev pub invariant-loop-p : goal.invariant-loop-p
invariant-loop-p l = (l.u ≡ writes l.initial.u 0 (λ p. if (eqb p l.c) 0 (entry l.w l.i p)) l.p) × (length l.u ≡ 20)
