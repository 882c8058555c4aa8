-- What a node does to its own part of the area is what release does to the area. Assumes nothing.
use mathlib.Core.Path.{◌≡◌, refl, ap, ◌∙◌}
use mathlib.Core.List.{List}
use Prim.Native.Nat.{ℕ, ◌*◌, ◌<◌}
use lib.ListN.{length}
use borrow.Rule.Slice.PartMut.{put_same}
use Rattle.base.proofs.Choice.{if_cases, if_both}
use Rattle.area.specs.Area.{zeros}
use Rattle.area.proofs.Blocks.{length_zeros}
use Rattle.area.proofs.Slots.{length_slot, length_put_slot}
use Rattle.layout.specs.declared.Shape.{Shape}
use Rattle.layout.specs.Ranges.{InRanges}
use Rattle.layout.specs.Counts.{kept}
use Rattle.layout.specs.Addresses.{node_slots, node_start, area_length}
use Rattle.layout.specs.Sources.{source_slot}
use Rattle.layout.specs.Closed.{swapped, swap_index}
use Rattle.layout.specs.Transfers.{sender}
use Rattle.layout.proofs.ClosedLaws.{turn_lt}
use Rattle.growth.specs.Cells.{put_cell}
use Rattle.growth.specs.Release.{moved_area, zero_sources, released_area}
use Rattle.growth.proofs.LocalCells.{sender_slots, sender_there, source_inside}
use Rattle.parts.specs.Own.{part_of, with_part, own_new}
use Rattle.parts.proofs.Parts.{length_part, put_part, run_own}
use Rattle.parts.proofs.News.{own_new_law}
use Rattle.release.specs.Own.{own_moved, own_zeroed, own_released}

length_moved_own : (z : Shape) (own : List ℕ) (w : ℕ) → length (own_moved z own w) ≡ length own
unfolding own_moved
length_moved_own z own w =
    if_cases (λ (o : List ℕ). length o ≡ length own) (swapped z w) _ _ (λ p. length_put_slot own z.b w _) (λ p. refl)

module _ (z : Shape) (ok : InRanges z) (w : ℕ) (l : w < kept z) (area : List ℕ) (long : length area ≡ area_length z) where
  node_moved : with_part z (sender z w) area (own_moved z (part_of z (sender z w) area) w) ≡ moved_area z area w
  unfolding own_moved own_new moved_area sender
  node_moved = if_both (λ own a. with_part z (sender z w) area own ≡ a) (swapped z w) _ _ _ _
      (λ p. put_part z (sender z w) (sender_there z ok w l) area long w _ (sender_slots z ok w l)
      (length_slot (part_of z (sender z w) area) z.b _)
      ∙ ap (put_cell z area (sender z w) w) (own_new_law z ok w l area long (swap_index z w) (turn_lt z ok w)))
      (λ p. put_same (node_start z (sender z w) * z.b) (node_slots z (sender z w) * z.b) area)

  node_zeroed : (own : List ℕ) → length own ≡ node_slots z (sender z w) * z.b
      → with_part z (sender z w) area (own_zeroed z w own) ≡ zero_sources z w (with_part z (sender z w) area own)
  unfolding own_zeroed zero_sources sender
  node_zeroed own lo =
      run_own z (sender z w) (sender_there z ok w l) area long (source_slot z w) (λ t. zeros z.b) (λ t. length_zeros z.b) z.s own lo
      (source_inside z ok w l)

  pub node_released : with_part z (sender z w) area (own_released z (part_of z (sender z w) area) w) ≡ released_area z area w
  unfolding own_released released_area
  node_released =
      node_zeroed _ (length_moved_own z (part_of z (sender z w) area) w ∙ length_part z (sender z w) (sender_there z ok w l) area long)
      ∙ ap (zero_sources z w) node_moved
