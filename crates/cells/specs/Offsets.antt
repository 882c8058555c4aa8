-- The offsets of a stripe's columns and rows in the area. Assumes nothing.
use Rattle.std.specs.Prelude.{◌≡◌, List, ℕ, ◌+◌, ◌*◌, ◌<◌, length, get_or}
use Rattle.layout.specs.declared.Shape.{Shape}
use Rattle.layout.specs.Ranges.{rows}
use Rattle.layout.specs.Addresses.{address}
use Rattle.layout.specs.Nodes.{row_node, data_node}

-- `at` starts with the offsets of the k columns of stripe g
pub record ColumnOffsets (z : Shape) (g : ℕ) (at : List ℕ) : Type 0 where
  pub size : length at ≡ 20
  pub each : (d : ℕ) → d < z.k → get_or at d 0 ≡ address z (data_node z g d) g * z.b

-- and behind them the offsets of its rows
pub record StripeOffsets (z : Shape) (g : ℕ) (at : List ℕ) : Type 0 where
  pub columns : ColumnOffsets z g at
  pub each : (j : ℕ) → j < rows z → get_or at (z.k + j) 0 ≡ address z (row_node z g j) g * z.b
