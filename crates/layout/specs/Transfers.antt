-- FORMAT §8; document 01, "Words and messages": the transfers (the paper's items) of a stripe. Assumes nothing.
use Rattle.std.specs.Prelude.{Bool, ◌&&◌, ℕ, ◌+◌, ◌-◌, ltb, eqb}
use Rattle.base.specs.Tests.{if}
use Rattle.layout.specs.declared.Shape.{Shape}
use Rattle.layout.specs.Ranges.{rows}
use Rattle.layout.specs.Nodes.{row_node}
use Rattle.layout.specs.Sources.{source_node}
use Rattle.layout.specs.Closed.{swapped, swap_index}

-- transfer e below r - 1 is the delta of row e + 1, any other the block to node n + t with e = r - 1 + t
abbrev pub is_delta : Shape → ℕ → Bool
is_delta z e = ltb e (rows z - 1)

abbrev pub new_node_of : Shape → ℕ → ℕ
new_node_of z e = e - (rows z - 1)

-- the sender has row 0 of the stripe and all its new blocks
unfoldable pub sender : Shape → ℕ → ℕ
sender z w = source_node z w

unfoldable pub receiver : Shape → ℕ → ℕ → ℕ
receiver z w e = if (is_delta z e) (row_node z w (e + 1)) (z.n + new_node_of z e)

-- kind 1 a delta, 2 a new block, 3 parity row 0: it goes to node n + y of a swapped stripe, in new block y's stead
unfoldable pub transfer_kind : Shape → ℕ → ℕ → ℕ
transfer_kind z w e = if (is_delta z e) 1 (if (swapped z w && eqb (new_node_of z e) (swap_index z w)) 3 2)
