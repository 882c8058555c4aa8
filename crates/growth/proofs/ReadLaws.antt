-- What read hands back is the cell in which the block now stands, inside the area. Assumes nothing.
use mathlib.Core.Path.{◌≡◌}
use mathlib.Core.List.{List}
use Prim.Native.Nat.{ℕ}
use lib.ListN.{length}
use Rattle.area.specs.Area.{slot}
use Rattle.layout.specs.declared.Shape.{Shape}
use Rattle.layout.specs.Columns.{standing_node, standing_slot}
use Rattle.layout.proofs.AddressLaws.{cell_inside}
use Rattle.layout.proofs.ColumnLaws.{standing}
use Rattle.growth.specs.Cells.{cell}
use Rattle.growth.specs.Read.{read_refusal, released_by, offset_of, locate, read}
use Rattle.growth.specs.Claims.{ReadCells}
use Rattle.growth.proofs.Allowed.{read_allowed}

pub read_cells : (z : Shape) (area journal : List ℕ) (g d : ℕ) → read_refusal z (length area) journal g d ≡ 0 → ReadCells z area journal g d
unfolding offset_of read locate cell slot
read_cells z area journal g d e =
    let m = read_allowed z (length area) journal g d e in
    let s = standing z m.ok g d m.stripe m.column in
    let l = cell_inside z (standing_node z (released_by journal) g d) (standing_slot z (released_by journal) g d)
    (s.node (released_by journal)) (s.slot (released_by journal)) in
    record { inside = rw m.area_long l; stretch = rw e }
