-- `stripes::write_piece` meets its contract. Before turn j the first j rows are written. Assumes nothing.
use mathlib.Core.Path.{◌≡◌}
use Prim.Native.Nat.{◌≤◌, ◌-◌}
use Rattle.code.specs.Rows.{vandermonde}
use Rattle.stripes.specs.Stripes.{with_rows}
use Rattle.stripes.proofs.write_piece.Given as goal

abbrev pub invariant-loop-j : goal.invariant-loop-j
invariant-loop-j l = (l.j ≤ l.rows) × (l.area ≡ with_rows vandermonde l.at l.b l.k l.j l.initial.area)

abbrev pub decreases-loop-j : goal.decreases-loop-j
decreases-loop-j l = l.rows - l.j
