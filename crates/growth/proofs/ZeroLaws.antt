-- Zeros in a stretch of a node's slots: they are there, and every other cell is as it was. An area of zeros. Assumes nothing.
use mathlib.Core.Path.{◌≡◌, sym, ◌∙◌}
use mathlib.Core.List.{List}
use Prim.Native.Nat.{ℕ, ◌+◌, ◌*◌, ◌≤◌, ◌<◌}
use native.Mathlib.Omega.{arith}
use lib.ListN.{length}
use Rattle.base.proofs.Tables.{table_at}
use Rattle.area.specs.Area.{zeros, slot}
use Rattle.area.proofs.Blocks.{block_eq, length_zeros}
use Rattle.layout.specs.declared.Shape.{Shape}
use Rattle.layout.specs.Addresses.{node_slots, address, area_length}
use Rattle.layout.proofs.AddressLaws.{cell_inside}
use Rattle.growth.specs.Cells.{cell, zero_cells}
use Rattle.growth.proofs.RunLaws.{Fit, length_puts, puts_other, puts_same}

-- `count` slots of node v, from slot p on
module _ (z : Shape) (v p count : ℕ) where
  pub length_zero_cells : (area : List ℕ) → length (zero_cells z v p count area) ≡ length area
  unfolding zero_cells
  length_zero_cells area = length_puts z (λ q. v) (λ q. q) (λ q. zeros z.b) p count area

  module _ (within : p + count ≤ node_slots z v) where
    zeros_fit : Fit z (λ q. v) (λ q. q) (λ q. zeros z.b) p count
    zeros_fit = record { size = λ q. length_zeros z.b; there = λ q l u. omega arith }

    pub zero_cells_same : (area : List ℕ) → length area ≡ area_length z → v < z.n + z.s → (g : ℕ) → p ≤ g → g < p + count
        → cell z (zero_cells z v p count area) v g ≡ zeros z.b
    unfolding zero_cells
    zero_cells_same area long lv g l u =
        puts_same z (λ q. v) (λ q. q) (λ q. zeros z.b) p count area zeros_fit long g l u lv (λ r m b node slot. omega arith)

    -- a cell of another node, or of another slot
    pub zero_cells_other : (area : List ℕ) (u g : ℕ) → g < node_slots z u → (v ≡ u → p ≤ g → g < p + count → ⊥)
        → cell z (zero_cells z v p count area) u g ≡ cell z area u g
    unfolding zero_cells
    zero_cells_other area u g lg apart =
        puts_other z (λ q. v) (λ q. q) (λ q. zeros z.b) p count area zeros_fit u g lg
        (λ q l b node slot. apart node (omega arith) (omega arith))

-- each cell of an area of zeros is zero
pub cell_zeros : (z : Shape) (v g : ℕ) → v < z.n + z.s → g < node_slots z v → cell z (zeros (area_length z)) v g ≡ zeros z.b
unfolding cell slot zeros
cell_zeros z v g lv lg =
    block_eq (zeros (area_length z)) (address z v g * z.b) z.b (zeros z.b) (length_zeros z.b)
    (λ i l. table_at (area_length z) _ (address z v g * z.b + i) (omega (arith, cell_inside z v g lv lg)) ∙ sym (table_at z.b _ i l))
