-- The cells of a stripe lie inside the area, and the blocks at the offsets of its columns are its columns. Assumes nothing.
use mathlib.Core.Path.{◌≡◌, ap, ◌∙◌}
use mathlib.Core.List.{List}
use Prim.Native.Nat.{ℕ, ◌+◌, ◌*◌, ◌%◌, ◌≤◌, ◌<◌}
use native.Mathlib.Nat.{add_assoc, mod-add-mod}
use native.Mathlib.Omega.{arith}
use Rattle.area.specs.Area.{slot}
use Rattle.combine.specs.Columns.{columns_at}
use Rattle.code.specs.Rows.{parity_row}
use Rattle.code.proofs.Laws.{parity_row_same}
use Rattle.layout.specs.declared.Shape.{Shape}
use Rattle.layout.specs.Ranges.{InRanges, rows}
use Rattle.layout.specs.Counts.{stripes}
use Rattle.layout.specs.Addresses.{node_slots, address, area_length}
use Rattle.layout.specs.Nodes.{row_node, data_node}
use Rattle.layout.proofs.AddressLaws.{slots_old, cell_inside}
use Rattle.layout.proofs.NodeLaws.{row_node_lt, data_node_lt}
use Rattle.growth.specs.Cells.{cell, column, parity_of, multiplier}
use Rattle.cells.specs.Offsets.{ColumnOffsets}

-- column d + 1 stands on the node after that of column d
pub next_column : (z : Shape) (g d : ℕ) {v r : ℕ} → v ≡ data_node z g d → r ≡ (v + 1) % z.n → r ≡ data_node z g (d + 1)
unfolding data_node
next_column z g d e f =
    f ∙ rw e (mod-add-mod (g + rows z + d) z.n 1) ∙ ap (λ (x : ℕ). x % z.n) (add_assoc (g + rows z) d 1)

module _ (z : Shape) (ok : InRanges z) (g : ℕ) (there : g < stripes z) where
  -- every node of stripe g has slot g
  pub row_slot : (j : ℕ) → g < node_slots z (row_node z g j)
  row_slot j = omega (arith, slots_old z (row_node z g j) (row_node_lt z ok g j))

  pub column_slot : (d : ℕ) → g < node_slots z (data_node z g d)
  column_slot d = omega (arith, slots_old z (data_node z g d) (data_node_lt z ok g d))

  pub row_inside : (j : ℕ) → address z (row_node z g j) g * z.b + z.b ≤ area_length z
  row_inside j = cell_inside z (row_node z g j) g (omega (arith, row_node_lt z ok g j)) (row_slot j)

  pub column_inside : (d : ℕ) → address z (data_node z g d) g * z.b + z.b ≤ area_length z
  column_inside d = cell_inside z (data_node z g d) g (omega (arith, data_node_lt z ok g d)) (column_slot d)

  module _ {at : List ℕ} (offsets : ColumnOffsets z g at) (area : List ℕ) where
    columns_are : (d : ℕ) → d < z.k → columns_at at area z.b d ≡ column z area g d
    unfolding columns_at column cell slot
    columns_are d l = rw (offsets.each d l)

    pub row_of_columns : (j : ℕ) → parity_row (multiplier z) z.b z.k j (columns_at at area z.b) ≡ parity_of z area g j
    unfolding parity_of
    row_of_columns j = parity_row_same (multiplier z) z.b z.k j (columns_at at area z.b) (column z area g) columns_are
