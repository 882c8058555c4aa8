-- FORMAT §7; document 01, "Runs of calls": new stripe w has the kept stripe's columns 0 to k - 1, and new block t as column k + t. Which
-- column of which new stripe an old block becomes, and the way back; and where the block stands meanwhile. Assumes nothing.
use Rattle.std.specs.Prelude.{Bool, ◌&&◌, ℕ, ◌+◌, ◌-◌, leb, ltb}
use Rattle.base.specs.Tests.{if}
use Rattle.layout.specs.declared.Shape.{Shape}
use Rattle.layout.specs.Counts.{kept}
use Rattle.layout.specs.Nodes.{data_node}
use Rattle.layout.specs.Sources.{source_slot, source_column, target_stripe, target_index}
use Rattle.layout.specs.Closed.{new_data_node}

-- the old block (g, d) becomes this column of this new stripe
unfoldable pub new_stripe : Shape → ℕ → ℕ → ℕ
new_stripe z g d = if (ltb g (kept z)) g (target_stripe z g d)

unfoldable pub new_column : Shape → ℕ → ℕ → ℕ
new_column z g d = if (ltb g (kept z)) d (z.k + target_index z g d)

-- column c of new stripe w comes from this column of this old stripe
unfoldable pub old_stripe : Shape → ℕ → ℕ → ℕ
old_stripe z w c = if (ltb c z.k) w (source_slot z w (c - z.k))

unfoldable pub old_column : Shape → ℕ → ℕ → ℕ
old_column z w c = if (ltb c z.k) c (source_column z w (c - z.k))

-- Document 01, "Read": a dissolved block is in its new place once its w is released
unfoldable pub has_moved : Shape → (ℕ → Bool) → ℕ → ℕ → Bool
has_moved z released g d = leb (kept z) g && released (new_stripe z g d)

-- the node and the slot in which block (g, d) stands now
unfoldable pub standing_node : Shape → (ℕ → Bool) → ℕ → ℕ → ℕ
standing_node z released g d = if (has_moved z released g d) (new_data_node z (new_stripe z g d) (new_column z g d)) (data_node z g d)

unfoldable pub standing_slot : Shape → (ℕ → Bool) → ℕ → ℕ → ℕ
standing_slot z released g d = if (has_moved z released g d) (new_stripe z g d) g
