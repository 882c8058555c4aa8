-- FORMAT §6; document 01, "Layout": the nodes of a stripe's rows and columns; all of stripe g stands in slot g. Assumes nothing.
use Rattle.std.specs.Prelude.{Bool, ℕ, ◌+◌, ◌%◌, eqb}
use Rattle.base.specs.Tests.{some}
use Rattle.layout.specs.declared.Shape.{Shape}
use Rattle.layout.specs.Ranges.{rows}
use Rattle.base.specs.Folds.{find}

-- the node of parity row j and of data column d of stripe g, kept or dissolved
unfoldable pub row_node : Shape → ℕ → ℕ → ℕ
row_node z g j = (g + j) % z.n

unfoldable pub data_node : Shape → ℕ → ℕ → ℕ
data_node z g d = (g + rows z + d) % z.n

-- node i has a data block in slot g
unfoldable pub has_data : Shape → ℕ → ℕ → Bool
has_data z i g = some z.k (λ d. eqb (data_node z g d) i)

-- the column of stripe g that stands on node i
unfoldable pub column_on : Shape → ℕ → ℕ → ℕ
column_on z g i = find z.k (λ d. eqb (data_node z g d) i)
