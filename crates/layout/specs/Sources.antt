-- FORMAT §6; document 01, "Layout": where the new blocks of a kept stripe come from. Assumes nothing.
use Rattle.std.specs.Prelude.{List, ℕ, ◌+◌, ◌-◌, ◌*◌, ◌/◌, ◌%◌, get_or}
use Rattle.layout.specs.declared.Shape.{Shape}
use Rattle.layout.specs.Counts.{kept, dissolved}
use Rattle.layout.specs.Nodes.{data_node, has_data, column_on}
use Rattle.base.specs.Folds.{filter_range, count_range}

-- the slots of node i's data blocks in dissolved stripes, by rising slot
unfoldable pub listing : Shape → ℕ → List ℕ
listing z i = filter_range (has_data z i) (kept z) (dissolved z)

-- new block t of kept stripe w: its node, its rank in that node's listing, its slot, and its column there
unfoldable pub source_node : Shape → ℕ → ℕ
source_node z w = w % z.n

unfoldable pub source_rank : Shape → ℕ → ℕ → ℕ
source_rank z w t = w / z.n * z.s + t

unfoldable pub source_slot : Shape → ℕ → ℕ → ℕ
source_slot z w t = get_or (listing z (source_node z w)) (source_rank z w t) 0

unfoldable pub source_column : Shape → ℕ → ℕ → ℕ
source_column z w t = column_on z (source_slot z w t) (source_node z w)

-- the way back, from block (g, d) of a dissolved stripe: its rank in its node's listing is how many stand before it there;
-- rank (w div n) s + t of node w mod n is new block t of w
unfoldable pub block_rank : Shape → ℕ → ℕ → ℕ
block_rank z g d = count_range (has_data z (data_node z g d)) (kept z) (g - kept z)

unfoldable pub target_stripe : Shape → ℕ → ℕ → ℕ
target_stripe z g d = block_rank z g d / z.s * z.n + data_node z g d

unfoldable pub target_index : Shape → ℕ → ℕ → ℕ
target_index z g d = block_rank z g d % z.s
