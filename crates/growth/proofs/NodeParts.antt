-- To have the same cells of a node is to have the same part of the area there. Assumes nothing.
use mathlib.Core.Path.{◌≡◌, sym, ap, ◌∙◌}
use mathlib.Core.List.{List}
use Prim.Native.Nat.{ℕ, ◌+◌, ◌*◌, ◌≤◌, ◌<◌}
use native.Mathlib.Nat.{add-mul, add_assoc}
use native.Mathlib.Omega.{arith}
use Rattle.base.proofs.Tables.{table_same}
use Rattle.area.specs.Area.{block, slot}
use Rattle.area.proofs.Blocks.{length_block, block_at}
use Rattle.area.proofs.Slots.{room, slots_ext}
use Rattle.layout.specs.declared.Shape.{Shape}
use Rattle.layout.specs.Ranges.{InRanges}
use Rattle.layout.specs.Addresses.{node_slots, node_start, address}
use Rattle.growth.specs.Cells.{cell}
use Rattle.growth.specs.Local.{node_part, PartIsCells}

-- a block of a block
block_within : (d : List ℕ) (s m at b : ℕ) → at + b ≤ m → block (block d s m) at b ≡ block d (s + at) b
unfolding block
block_within d s m at b h = table_same b _ _ (λ i l. block_at d s m (at + i) (omega arith) ∙ rw add_assoc)

-- slot g of the part is the node's cell g
part_cell : (z : Shape) (area : List ℕ) (v g : ℕ) → g < node_slots z v → slot (node_part z area v) z.b g ≡ cell z area v g
unfolding node_part cell slot address
part_cell z area v g l = block_within area (node_start z v * z.b) (node_slots z v * z.b) (g * z.b) z.b (room g (node_slots z v) z.b l)
    ∙ rw add-mul

pub part_is_cells : (z : Shape) → InRanges z → (v : ℕ) (a b : List ℕ) → PartIsCells z v a b
unfolding node_part
part_is_cells z ok v a b = record {
  part = λ s. slots_ext (node_part z a v) (node_part z b v) z.b (node_slots z v) ok.some_bytes (length_block a _ _) (length_block b _ _)
      (λ g l. part_cell z a v g l ∙ (s.cells g l ∙ sym (part_cell z b v g l)));
  cells = λ long e. record { long = long; cells = λ g l. sym (part_cell z a v g l) ∙ (ap (λ p. slot p z.b g) e ∙ part_cell z b v g l) };
}
