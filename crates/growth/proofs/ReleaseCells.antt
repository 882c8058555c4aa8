-- Release zeroes the first places of its stripe's new blocks, moves the swapped one, and leaves every other cell. Assumes nothing.
use mathlib.Core.Path.{◌≡◌, refl, sym, ap, ◌∙◌}
use mathlib.Core.Bool.{true}
use mathlib.Core.List.{List}
use Prim.Native.Nat.{ℕ, ◌+◌, ◌≤◌, ◌<◌}
use native.Mathlib.Omega.{arith}
use lib.ListN.{length}
use Rattle.base.proofs.Choice.{if_cases}
use Rattle.area.specs.Area.{zeros}
use Rattle.area.proofs.Blocks.{length_zeros}
use Rattle.layout.specs.declared.Shape.{Shape}
use Rattle.layout.specs.Ranges.{InRanges}
use Rattle.layout.specs.Counts.{kept}
use Rattle.layout.specs.Addresses.{node_slots, area_length}
use Rattle.layout.specs.Nodes.{column_on}
use Rattle.layout.specs.Sources.{source_node, source_slot, source_column, target_index}
use Rattle.layout.specs.Closed.{swapped, swap_index}
use Rattle.layout.proofs.SourceLaws.{taken}
use Rattle.growth.specs.Cells.{cell, new_block}
use Rattle.growth.specs.Release.{moved_area, zero_sources, released_area}
use Rattle.growth.specs.Claims.{ReleaseCells}
use Rattle.growth.proofs.CellLaws.{cell_same, cell_other}
use Rattle.growth.proofs.BlockLaws.{length_new_block}
use Rattle.growth.proofs.LengthLaws.{length_moved}
use Rattle.growth.proofs.RunLaws.{Fit, puts_same, puts_other}
use Rattle.growth.proofs.LocalCells.{source_sender, sender_slots, sender_there, source_inside}

module _ (z : Shape) (ok : InRanges z) (w : ℕ) (l : w < kept z) where
  -- the first places of two new blocks are different, and none is in a kept slot
  sources_differ : (t u : ℕ) → t < z.s → u < z.s → source_slot z w t ≡ source_slot z w u → t ≡ u
  unfolding source_column
  sources_differ t u lt lu e =
      sym (taken z ok w t l lt).index ∙ (ap (λ g. target_index z g (column_on z g (source_node z w))) e ∙ (taken z ok w u l lu).index)

  source_dissolved : (t : ℕ) → t < z.s → kept z ≤ source_slot z w t
  source_dissolved t lt = (taken z ok w t l lt).from

  -- the node has slot w, and every source's
  pub own_slot : w < node_slots z (source_node z w)
  own_slot = rw (source_sender z w) (sender_slots z ok w l)

  pub own_source : (t : ℕ) → t < z.s → source_slot z w t < node_slots z (source_node z w)
  own_source t lt = rw (source_sender z w) (source_inside z ok w l t lt)

  pub own_node : source_node z w < z.n + z.s
  own_node = rw (source_sender z w) (sender_there z ok w l)

  -- ---- the move

  move_there : (area : List ℕ) → length area ≡ area_length z → swapped z w ≡ true
      → cell z (moved_area z area w) (source_node z w) w ≡ new_block z area w (swap_index z w)
  unfolding moved_area
  move_there area long p = rw p (cell_same z area (source_node z w) w _ long own_node own_slot (length_new_block z area w _))

  move_others : (area : List ℕ) (v g : ℕ) → g < node_slots z v → (swapped z w ≡ true → source_node z w ≡ v → w ≡ g → ⊥)
      → cell z (moved_area z area w) v g ≡ cell z area v g
  unfolding moved_area
  move_others area v g lg apart = if_cases (λ a. cell z a v g ≡ cell z area v g) (swapped z w) _ _
      (λ p. cell_other z area (source_node z w) w v g _ own_slot lg (length_new_block z area w _) (apart p)) (λ p. refl)

  -- ---- the zeros

  sources_fit : Fit z (λ t. source_node z w) (source_slot z w) (λ t. zeros z.b) 0 z.s
  sources_fit = record { size = λ t. length_zeros z.b; there = λ t p q. own_source t (omega arith) }

  zeroed : (area : List ℕ) → length area ≡ area_length z → (t : ℕ) → t < z.s
      → cell z (zero_sources z w area) (source_node z w) (source_slot z w t) ≡ zeros z.b
  unfolding zero_sources
  zeroed area long t lt = puts_same z (λ t. source_node z w) (source_slot z w) (λ t. zeros z.b) 0 _ area sources_fit long t
      (omega arith) (omega arith) own_node (λ u m h p q. let e : u ≡ t = sources_differ u t (omega arith) lt q in omega arith)

  zeroed_others : (area : List ℕ) (v g : ℕ) → g < node_slots z v → ((t : ℕ) → t < z.s → source_node z w ≡ v → source_slot z w t ≡ g → ⊥)
      → cell z (zero_sources z w area) v g ≡ cell z area v g
  unfolding zero_sources
  zeroed_others area v g lg apart = puts_other z (λ t. source_node z w) (source_slot z w) (λ t. zeros z.b) 0 _ area sources_fit v g lg
      (λ t p q. apart t (omega arith))

-- the move goes into a kept slot, which no zero reaches
pub release_cells : (z : Shape) → InRanges z → (area : List ℕ) → length area ≡ area_length z → (w : ℕ) → w < kept z → ReleaseCells z area w
unfolding released_area
release_cells z ok area long w l = record {
  sources = zeroed z ok w l (moved_area z area w) (length_moved z area w ∙ long);
  swap = λ p. zeroed_others z ok w l (moved_area z area w) (source_node z w) w (own_slot z ok w l)
      (λ t lt q e. omega (arith, source_dissolved z ok w l t lt)) ∙ move_there z ok w l area long p;
  others = λ v g lg apart away. zeroed_others z ok w l (moved_area z area w) v g lg apart ∙ move_others z ok w l area v g lg away;
}
