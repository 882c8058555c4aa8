-- `cells::column_offsets` meets its contract. Before turn d the first d offsets are there, and v is the node of column d. Assumes nothing.
use mathlib.Core.Path.{◌≡◌}
use Prim.Native.Nat.{ℕ, ◌*◌, ◌<◌}
use lib.ListN.{length, get_or}
use Rattle.layout.specs.Addresses.{address}
use Rattle.layout.specs.Nodes.{data_node}
use Rattle.cells.proofs.column_offsets.Given as goal

abbrev pub invariant-loop-d : goal.invariant-loop-d
invariant-loop-d l =
    (length l.at ≡ 20) × (l.v ≡ data_node l.z.shape l.g l.d)
    × ((e : ℕ) → e < l.d → get_or l.at e 0 ≡ address l.z.shape (data_node l.z.shape l.g e) l.g * l.z.shape.b)
