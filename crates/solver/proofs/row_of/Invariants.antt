-- `solver::row_of` meets its contract. Before turn i it has the last of the first i rows whose pivot is column c. Assumes nothing.
use mathlib.Core.Path.{◌≡◌}
use Prim.Native.Nat.{◌+◌}
use lib.Dec.{eqb}
use lib.ListN.{get_or}
use Rattle.std.specs.Prelude.{None}
use Rattle.elimination.specs.Matrix.{from_one, last_below}
use Rattle.solver.proofs.row_of.Given as goal

abbrev pub invariant-loop-i : goal.invariant-loop-i
invariant-loop-i l = from_one l.row ≡ last_below (λ i. eqb (from_one (get_or l.pivots i None)) (l.c + 1)) l.i
