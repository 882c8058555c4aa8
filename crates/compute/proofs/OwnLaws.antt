-- Compute on the sender's part of the area: what the code makes of the part, and what the area is with it. Assumes nothing.
use mathlib.Core.Path.{◌≡◌, ap, ◌∙◌}
use mathlib.Core.List.{List}
use Prim.Native.Nat.{ℕ, ◌*◌, ◌<◌}
use lib.ListN.{length}
use Rattle.area.specs.Area.{block, put, slot, put_slot, xor_blocks}
use Rattle.area.proofs.Sums.{length_xor_blocks}
use Rattle.combine.specs.Columns.{columns_at}
use Rattle.code.specs.Rows.{delta}
use Rattle.layout.specs.declared.Shape.{Shape}
use Rattle.layout.specs.Ranges.{InRanges}
use Rattle.layout.specs.Counts.{kept, stripes}
use Rattle.layout.specs.Addresses.{area_length}
use Rattle.layout.specs.Transfers.{sender}
use Rattle.layout.proofs.TransferLaws.{sender_row_0}
use Rattle.growth.specs.Cells.{put_cell, row, new_block, delta_of, multiplier}
use Rattle.growth.specs.Compute.{computed_area}
use Rattle.growth.proofs.LocalCells.{sender_slots, sender_there}
use Rattle.parts.specs.Own.{part_of, with_part, NewOffsets}
use Rattle.parts.proofs.Parts.{put_part}
use Rattle.parts.proofs.News.{news_delta, own_delta, own_row0}
use Rattle.compute.specs.Own.{own_computed}

-- the code's sum, put at slot w
pub own_code : (z : Shape) → InRanges z → (w : ℕ) → w < kept z → (at : List ℕ) → NewOffsets z w at → (own : List ℕ)
    → length own ≡ stripes z * z.b → {out : List ℕ}
    → out ≡ put own (w * z.b) (xor_blocks z.b (block own (w * z.b) z.b)
    (delta (multiplier z) z.b z.k z.s 0 (columns_at at own z.b))) → out ≡ own_computed z own w
unfolding own_computed put_slot slot
own_code z ok w l at offsets own long e =
    e ∙ ap (λ x. put_slot own z.b w (xor_blocks z.b (slot own z.b w) x)) (news_delta z ok w l at offsets own long 0)

pub part_computed : (z : Shape) → InRanges z → (w : ℕ) → w < kept z → (area : List ℕ) → length area ≡ area_length z
    → with_part z (sender z w) area (own_computed z (part_of z (sender z w) area) w) ≡ computed_area z area w
unfolding own_computed computed_area
part_computed z ok w l area long =
    put_part z (sender z w) (sender_there z ok w l) area long w _ (sender_slots z ok w l) (length_xor_blocks z.b _ _)
    ∙ rw (own_row0 z ok w l area long, own_delta z ok w l area long 0)
    (ap (λ v. put_cell z area v w (xor_blocks z.b (row z area w 0) (delta_of z 0 (new_block z area w)))) (sender_row_0 z ok w))
