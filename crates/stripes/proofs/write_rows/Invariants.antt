-- `stripes::write_rows` meets its contract. Before each turn the first x bytes of every row are written. Assumes nothing.
use mathlib.Core.Path.{◌≡◌}
use Prim.Native.Nat.{◌+◌, ◌≤◌, ◌-◌}
use lib.ListN.{length}
use Rattle.code.specs.Rows.{vandermonde}
use Rattle.stripes.specs.Stripes.{Moved, with_rows}
use Rattle.stripes.proofs.write_rows.Given as goal

abbrev pub invariant-loop-x : goal.invariant-loop-x
invariant-loop-x l =
    (l.x ≤ l.b) × (length l.at ≡ 20) × Moved l.initial.at l.at (l.k + l.rows) l.x
    × (l.area ≡ with_rows vandermonde l.initial.at l.x l.k l.rows l.initial.area)

abbrev pub decreases-loop-x : goal.decreases-loop-x
decreases-loop-x l = l.b - l.x
