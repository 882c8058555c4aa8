-- `cells::stripe_offsets` meets its contract. Before turn j the offsets of the columns and of the first j rows are there. Assumes nothing.
use mathlib.Core.Path.{◌≡◌}
use Prim.Native.Nat.{ℕ, ◌+◌, ◌*◌, ◌<◌}
use lib.ListN.{get_or}
use Rattle.layout.specs.Addresses.{address}
use Rattle.layout.specs.Nodes.{row_node}
use Rattle.cells.specs.Offsets.{ColumnOffsets}
use Rattle.cells.proofs.stripe_offsets.Given as goal

abbrev pub invariant-loop-j : goal.invariant-loop-j
invariant-loop-j l =
    ColumnOffsets l.z.shape l.g l.at
    × ((i : ℕ) → i < l.j → get_or l.at (l.z.shape.k + i) 0 ≡ address l.z.shape (row_node l.z.shape l.g i) l.g * l.z.shape.b)
