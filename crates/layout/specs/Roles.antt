-- FORMAT §7. What each cell (node, slot) is for in the growth. Assumes nothing.
use Rattle.std.specs.Prelude.{Bool, ◌&&◌, ℕ, ◌+◌, ◌-◌, eqb, leb, ltb}
use Rattle.base.specs.Tests.{if}
use Rattle.base.specs.Folds.{find}
use Rattle.layout.specs.declared.Shape.{Shape}
use Rattle.layout.specs.Ranges.{rows}
use Rattle.layout.specs.Counts.{kept, stripes}
use Rattle.layout.specs.Nodes.{row_node, data_node, has_data, column_on}
use Rattle.layout.specs.Sources.{source_node, source_slot, target_stripe, target_index}

-- column d, row j of kept stripe w; the first place of new block t of w; row j of dissolved stripe g; the cell for w on node n + t
pub data Role : Type 0 where
  kept_data : (w d : ℕ) → Role
  kept_row : (w j : ℕ) → Role
  source : (w t : ℕ) → Role
  dissolved_row : (g j : ℕ) → Role
  new_cell : (w t : ℕ) → Role

-- which roles there are
abbrev pub role_exists : Shape → Role → Bool
role_exists z (kept_data w d) = ltb w (kept z) && ltb d z.k
role_exists z (kept_row w j) = ltb w (kept z) && ltb j (rows z)
role_exists z (source w t) = ltb w (kept z) && ltb t z.s
role_exists z (dissolved_row g j) = leb (kept z) g && (ltb g (stripes z) && ltb j (rows z))
role_exists z (new_cell w t) = ltb w (kept z) && ltb t z.s

-- the node and the slot of a role's cell
abbrev pub role_node : Shape → Role → ℕ
role_node z (kept_data w d) = data_node z w d
role_node z (kept_row w j) = row_node z w j
role_node z (source w t) = source_node z w
role_node z (dissolved_row g j) = row_node z g j
role_node z (new_cell w t) = z.n + t

abbrev pub role_slot : Shape → Role → ℕ
role_slot z (kept_data w d) = w
role_slot z (kept_row w j) = w
role_slot z (source w t) = source_slot z w t
role_slot z (dissolved_row g j) = g
role_slot z (new_cell w t) = w

-- the role of column d and of row j of stripe g
unfoldable pub data_role : Shape → ℕ → ℕ → Role
data_role z g d = if (ltb g (kept z)) (kept_data g d) (source (target_stripe z g d) (target_index z g d))

unfoldable pub row_role : Shape → ℕ → ℕ → Role
row_role z g j = if (ltb g (kept z)) (kept_row g j) (dissolved_row g j)

-- the row of stripe g that stands on node i
unfoldable pub row_on : Shape → ℕ → ℕ → ℕ
row_on z g i = find (rows z) (λ j. eqb (row_node z g j) i)

-- the role of slot g of node v
unfoldable pub role_at : Shape → ℕ → ℕ → Role
role_at z v g = if (ltb v z.n) (if (has_data z v g) (data_role z g (column_on z g v)) (row_role z g (row_on z g v))) (new_cell g (v - z.n))
