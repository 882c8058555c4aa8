-- `solver::null_vector` meets its contract. Before turn p the first p data are stored. Assumes nothing.
use mathlib.Core.Path.{◌≡◌}
use lib.ListN.{length}
use Rattle.area.specs.Area.{writes}
use Rattle.solver.specs.Solution.{null_data}
use Rattle.solver.proofs.null_vector.Given as goal

abbrev pub invariant-loop-p : goal.invariant-loop-p
invariant-loop-p l = (l.y ≡ writes l.initial.y 0 (null_data l.losses l.k l.w l.f) l.p) × (length l.y ≡ 20)
