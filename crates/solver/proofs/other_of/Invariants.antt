-- `solver::other_of` meets its contract. Before turn p it has the last lost column other than c in row i among the
-- first p. Assumes nothing.
use mathlib.Core.Path.{◌≡◌}
use Rattle.code.specs.Agreement.{is_lost}
use Rattle.elimination.specs.Matrix.{from_one, has_unknown, last_below}
use Rattle.solver.proofs.OtherLaws.{other_than}
use Rattle.solver.proofs.other_of.Given as goal

abbrev pub invariant-loop-p : goal.invariant-loop-p
invariant-loop-p l = from_one l.other ≡ last_below (other_than l.c (has_unknown (is_lost l.losses) l.w l.i)) l.p
