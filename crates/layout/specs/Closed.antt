-- FORMAT §7; document 01, "Layout": the closed layout. All blocks of new stripe w stand in slot w. Assumes nothing.
use Rattle.std.specs.Prelude.{Bool, ◌&&◌, ℕ, ◌+◌, ◌-◌, ◌%◌, leb, ltb, eqb}
use Rattle.base.specs.Tests.{if, some}
use Rattle.layout.specs.declared.Shape.{Shape}
use Rattle.layout.specs.Ranges.{rows}
use Rattle.layout.specs.Counts.{straight_stripes}
use Rattle.layout.specs.Nodes.{row_node, data_node}
use Rattle.layout.specs.Sources.{source_node}

-- stripe w is straight if w < T, otherwise swapped
unfoldable pub swapped : Shape → ℕ → Bool
swapped z w = leb (straight_stripes z) w

-- the paper's y: which new node gets parity row 0 of the swapped stripe w
unfoldable pub swap_index : Shape → ℕ → ℕ
swap_index z w = (w - straight_stripes z) % z.s

-- swapped: row 0 goes to node n + y
unfoldable pub new_row_node : Shape → ℕ → ℕ → ℕ
new_row_node z w j = if (swapped z w && eqb j 0) (z.n + swap_index z w) (row_node z w j)

-- swapped: new block y moves on its own node; every other new block t goes to node n + t
unfoldable pub new_block_node : Shape → ℕ → ℕ → ℕ
new_block_node z w t = if (swapped z w && eqb t (swap_index z w)) (source_node z w) (z.n + t)

-- columns 0 to k - 1 are the kept stripe's, column k + t is new block t
unfoldable pub new_data_node : Shape → ℕ → ℕ → ℕ
new_data_node z w c = if (ltb c z.k) (data_node z w c) (new_block_node z w (c - z.k))

-- the n + s blocks of a new stripe, its r rows and then its k + s columns: the node of block e
unfoldable pub new_node : Shape → ℕ → ℕ → ℕ
new_node z w e = if (ltb e (rows z)) (new_row_node z w e) (new_data_node z w (e - rows z))

-- node v has a parity block in slot w; a data block
unfoldable pub new_parity_at : Shape → ℕ → ℕ → Bool
new_parity_at z v w = some (rows z) (λ j. eqb (new_row_node z w j) v)

unfoldable pub new_data_at : Shape → ℕ → ℕ → Bool
new_data_at z v w = some (z.k + z.s) (λ c. eqb (new_data_node z w c) v)
