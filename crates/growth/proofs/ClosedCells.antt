-- The cells of the closed area: in slots below P the blocks of the new stripes, and zeros from there on. Assumes nothing.
use mathlib.Core.Path.{◌≡◌, ◌∙◌}
use mathlib.Core.List.{List}
use Prim.Native.Nat.{ℕ, ◌+◌, ◌-◌, ◌≤◌, ◌<◌}
use native.Mathlib.Omega.{arith}
use lib.Dec.{ltb}
use lib.ListN.{length}
use Rattle.base.proofs.Choice.{if_cases}
use Rattle.base.proofs.Runs.{run_keeps}
use Rattle.area.specs.Area.{zeros}
use Rattle.area.proofs.Blocks.{length_zeros}
use Rattle.code.proofs.Laws.{length_parity_row}
use Rattle.layout.specs.declared.Shape.{Shape}
use Rattle.layout.specs.Ranges.{rows, InRanges}
use Rattle.layout.specs.Counts.{kept, stripes}
use Rattle.layout.specs.Addresses.{node_slots, area_length}
use Rattle.layout.specs.Closed.{new_node}
use Rattle.layout.proofs.AddressLaws.{slots_old, kept_slots}
use Rattle.layout.proofs.ClosedLaws.{new_block_node_law, nodes_differ}
use Rattle.growth.specs.Cells.{cell, column}
use Rattle.growth.specs.ClosedArea.{new_stripe_column, new_stripe_row, new_stripe_block, put_stripe, closed_area}
use Rattle.growth.specs.Claims.{ClosedCells}
use Rattle.growth.proofs.CellLaws.{length_cell}
use Rattle.growth.proofs.RunLaws.{run_length, run_leaves, Fit, length_puts, puts_other, puts_same}
use Rattle.growth.proofs.ZeroLaws.{cell_zeros}

-- each of a new stripe's blocks has b bytes
length_new_stripe_row : (z : Shape) (begun : List ℕ) (w j : ℕ) → length (new_stripe_row z begun w j) ≡ z.b
unfolding new_stripe_row
length_new_stripe_row z begun w j = length_parity_row _ z.b (z.k + z.s) j _

length_new_stripe_column : (z : Shape) (begun : List ℕ) (w c : ℕ) → length (new_stripe_column z begun w c) ≡ z.b
unfolding new_stripe_column column
length_new_stripe_column z begun w c = length_cell z begun _ _

pub length_new_stripe_block : (z : Shape) (begun : List ℕ) (w e : ℕ) → length (new_stripe_block z begun w e) ≡ z.b
unfolding new_stripe_block
length_new_stripe_block z begun w e =
    if_cases (λ (block : List ℕ). length block ≡ z.b) (ltb e (rows z)) _ _
    (λ t. length_new_stripe_row z begun w e) (λ t. length_new_stripe_column z begun w (e - rows z))

-- ---- one new stripe

length_put_stripe : (z : Shape) (begun : List ℕ) (w : ℕ) (area : List ℕ) → length (put_stripe z begun w area) ≡ length area
unfolding put_stripe
length_put_stripe z begun w area = length_puts z _ _ _ _ _ area

module _ (z : Shape) (ok : InRanges z) (begun : List ℕ) where
  blocks_fit : (w p n : ℕ) → w < kept z → Fit z (new_node z w) (λ e. w) (new_stripe_block z begun w) p n
  blocks_fit w p n lw = record { size = length_new_stripe_block z begun w; there = λ e l u. omega (arith, kept_slots z (new_node z w e)) }

  stripe_block_law : (w e : ℕ) (area : List ℕ) → length area ≡ area_length z → w < kept z → e < z.n + z.s
      → cell z (put_stripe z begun w area) (new_node z w e) w ≡ new_stripe_block z begun w e
  unfolding put_stripe
  stripe_block_law w e area long lw le =
      puts_same z (new_node z w) (λ e. w) (new_stripe_block z begun w) _ _ area (blocks_fit w _ _ lw) long e (omega arith) (omega arith)
      (new_block_node_law z ok w e le).0
      (λ r m u node slot. let same : r ≡ e = nodes_differ z ok w r e (omega arith) le node in omega arith)

  -- a cell of another slot
  stripe_apart : (w : ℕ) (area : List ℕ) → w < kept z → (v g : ℕ) → g < node_slots z v → (w ≡ g → ⊥)
      → cell z (put_stripe z begun w area) v g ≡ cell z area v g
  unfolding put_stripe
  stripe_apart w area lw v g lg apart =
      puts_other z (new_node z w) (λ e. w) (new_stripe_block z begun w) _ _ area (blocks_fit w _ _ lw) v g lg
      (λ e l u node slot. apart slot)

  -- ---- all new stripes, in an area of zeros

  closed_long : length (closed_area z begun) ≡ area_length z
  unfolding closed_area
  closed_long = run_length _ (length_put_stripe z begun) _ _ _ ∙ length_zeros (area_length z)

  closed_stripe : (w e : ℕ) → w < kept z → e < z.n + z.s → cell z (closed_area z begun) (new_node z w e) w ≡ new_stripe_block z begun w e
  unfolding closed_area
  closed_stripe w e lw le =
      run_leaves _ (length_put_stripe z begun) (λ a. cell z a (new_node z w e) w) (new_stripe_block z begun w e) _ _ w _
      (omega arith) (omega arith)
      (λ a same. stripe_block_law w e a (same ∙ length_zeros (area_length z)) lw le)
      (λ q a m u. stripe_apart q a (omega arith) (new_node z w e) w (omega (arith, kept_slots z (new_node z w e))) (λ slot. omega arith))

  closed_others : (v g : ℕ) → v < z.n → kept z ≤ g → g < stripes z → cell z (closed_area z begun) v g ≡ zeros z.b
  unfolding closed_area
  closed_others v g lv lg ug =
      let here : g < node_slots z v = omega (arith, slots_old z v lv) in
      run_keeps _ (λ a. cell z a v g) _ _ _ (λ q a l u. stripe_apart q a (omega arith) v g here (λ slot. omega arith))
      ∙ cell_zeros z v g (omega arith) here

pub closed_cells : (z : Shape) → InRanges z → (begun : List ℕ) → ClosedCells z begun (closed_area z begun)
closed_cells z ok begun = record { long = closed_long z ok begun; stripe = closed_stripe z ok begun; others = closed_others z ok begun }
