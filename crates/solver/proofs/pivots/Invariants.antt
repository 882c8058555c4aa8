-- `solver::pivots` meets its contract. Before turn i the first i pivots are stored. Assumes nothing.
use mathlib.Core.Path.{◌≡◌}
use Prim.Native.Nat.{ℕ, ◌<◌}
use lib.ListN.{length, get_or}
use Rattle.std.specs.Prelude.{None}
use Rattle.code.specs.Agreement.{is_lost}
use Rattle.elimination.specs.Matrix.{from_one, pivot_of}
use Rattle.solver.proofs.pivots.Given as goal

abbrev pub invariant-loop-i : goal.invariant-loop-i
invariant-loop-i l =
    ((o : ℕ) → o < l.i → from_one (get_or l.pivots o None) ≡ pivot_of (is_lost l.losses) l.k l.w o) × (length l.pivots ≡ 4)
