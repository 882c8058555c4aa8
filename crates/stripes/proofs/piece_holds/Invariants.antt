-- `stripes::piece_holds` meets its contract. Before turn j the first j rows hold. Assumes nothing.
use mathlib.Core.Path.{◌≡◌}
use mathlib.Core.Bool.{true}
use Prim.Native.Nat.{◌≤◌, ◌-◌}
use Rattle.base.specs.Tests.{every}
use Rattle.code.specs.Rows.{vandermonde}
use Rattle.stripes.specs.Stripes.{row_test}
use Rattle.stripes.proofs.piece_holds.Given as goal

abbrev pub invariant-loop-j : goal.invariant-loop-j
invariant-loop-j l = (l.j ≤ l.rows) × (every l.j (row_test vandermonde l.at l.b l.k l.area) ≡ true)

abbrev pub decreases-loop-j : goal.decreases-loop-j
decreases-loop-j l = l.rows - l.j
