-- FORMAT §5; document 01, "Layout" and "Shape and code": the blocks of a growing store, where they stand in the area. Assumes nothing.
use Rattle.std.specs.Prelude.{List, ℕ}
use Rattle.base.specs.Folds.{run}
use Rattle.area.specs.Area.{zeros, slot, put_slot}
use Rattle.code.specs.Rows.{parity_row, delta, vandermonde}
use Rattle.layout.specs.declared.Shape.{Shape}
use Rattle.layout.specs.Addresses.{address}
use Rattle.layout.specs.Nodes.{row_node, data_node}
use Rattle.layout.specs.Sources.{source_node, source_slot}

-- the block in slot g of node v, and the area with another block there
unfoldable pub cell : Shape → List ℕ → ℕ → ℕ → List ℕ
cell z area v g = slot area z.b (address z v g)

unfoldable pub put_cell : Shape → List ℕ → ℕ → ℕ → List ℕ → List ℕ
put_cell z area v g block = put_slot area z.b (address z v g) block

-- the area with zeros in `count` slots of node v, from slot g on
unfoldable pub zero_cells : Shape → ℕ → ℕ → ℕ → List ℕ → List ℕ
zero_cells z v g count area = run (λ q a. put_cell z a v q (zeros z.b)) g count area

-- ---- stripe g, kept or dissolved

unfoldable pub column : Shape → List ℕ → ℕ → ℕ → List ℕ
column z area g d = cell z area (data_node z g d) g

unfoldable pub row : Shape → List ℕ → ℕ → ℕ → List ℕ
row z area g j = cell z area (row_node z g j) g

-- row j has the multiplier j + 1, whatever the shape
abbrev pub multiplier : Shape → ℕ → ℕ
multiplier z j = vandermonde j

-- parity row j, as the stripe's columns give it
unfoldable pub parity_of : Shape → List ℕ → ℕ → ℕ → List ℕ
parity_of z area g j = parity_row (multiplier z) z.b z.k j (column z area g)

-- ---- new blocks of kept stripe w

-- new block t in its first place
unfoldable pub new_block : Shape → List ℕ → ℕ → ℕ → List ℕ
new_block z area w t = cell z area (source_node z w) (source_slot z w t)

-- the delta of row j (the paper's change), from the new blocks
unfoldable pub delta_of : Shape → ℕ → (ℕ → List ℕ) → List ℕ
delta_of z j news = delta (multiplier z) z.b z.k z.s j news
