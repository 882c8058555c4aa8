-- `rebuild::rows::code_rows` meets its contract. Before turn j the first j rows are there. Assumes nothing.
use mathlib.Core.Path.{◌≡◌}
use Prim.Native.Nat.{◌≤◌, ◌-◌}
use lib.ListN.{length}
use Rattle.rebuild.specs.Steps.{CodeRows}
use Rattle.rebuild.proofs.rows.code_rows.Given as goal

abbrev pub invariant-loop-j : goal.invariant-loop-j
invariant-loop-j l = (l.j ≤ 4) × CodeRows l.j l.rows × (length l.rows ≡ 80)

abbrev pub decreases-loop-j : goal.decreases-loop-j
decreases-loop-j l = 4 - l.j
