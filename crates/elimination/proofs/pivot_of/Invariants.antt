-- `elimination::pivot_of` meets its contract. Before turn p the pivot is the last unknown place of row i among the
-- first p. Assumes nothing.
use mathlib.Core.Path.{◌≡◌}
use Rattle.code.specs.Agreement.{is_lost}
use Rattle.elimination.specs.Matrix.{from_one, has_unknown, last_below}
use Rattle.elimination.proofs.pivot_of.Given as goal

abbrev pub invariant-loop-p : goal.invariant-loop-p
invariant-loop-p l = from_one l.pivot ≡ last_below (has_unknown (is_lost l.losses) l.w l.i) l.p
