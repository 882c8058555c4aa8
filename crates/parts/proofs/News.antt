-- The new blocks of a kept stripe in the part of the node that they come from, which has the stripe's row 0 too. Assumes nothing.
use mathlib.Core.Path.{◌≡◌, sym, ap, ◌∙◌}
use mathlib.Core.List.{List}
use Prim.Native.Nat.{ℕ, ◌+◌, ◌*◌, ◌≤◌, ◌<◌}
use native.Mathlib.Omega.{arith}
use lib.ListN.{length, get_or}
use Rattle.area.specs.Area.{block, slot}
use Rattle.area.proofs.Slots.{room}
use Rattle.combine.specs.Columns.{columns_at, Inside}
use Rattle.code.specs.Rows.{delta}
use Rattle.code.proofs.Laws.{delta_same}
use Rattle.layout.specs.declared.Shape.{Shape}
use Rattle.layout.specs.Ranges.{InRanges}
use Rattle.layout.specs.Counts.{kept, stripes}
use Rattle.layout.specs.Addresses.{area_length}
use Rattle.layout.specs.Sources.{source_slot}
use Rattle.layout.specs.Transfers.{sender}
use Rattle.layout.proofs.SourceLaws.{taken}
use Rattle.layout.proofs.TransferLaws.{sender_row_0}
use Rattle.growth.specs.Cells.{cell, row, multiplier, new_block, delta_of}
use Rattle.growth.proofs.LocalCells.{source_sender, sender_slots, sender_there, source_inside}
use Rattle.parts.specs.Own.{part_of, own_new, NewOffsets}
use Rattle.parts.proofs.Parts.{own_cell}

-- ---- by their offsets, in a part of G slots

module _ (z : Shape) (ok : InRanges z) (w : ℕ) (l : w < kept z) (at : List ℕ) (offsets : NewOffsets z w at) (own : List ℕ)
    (long : length own ≡ stripes z * z.b) where
  pub news_inside : Inside at z.s z.b own
  news_inside = record { count = omega arith; fits = λ t h. fits t h }
    where
      fits : (t : ℕ) → t < z.s → get_or at t 0 + z.b ≤ length own
      fits t h = rw (offsets.each t h, long) (room (source_slot z w t) (stripes z) z.b (taken z ok w t l h).under)

  news_columns : (t : ℕ) → t < z.s → columns_at at own z.b t ≡ own_new z own w t
  unfolding columns_at own_new slot
  news_columns t h = ap (λ x. block own x z.b) (offsets.each t h)

  pub news_delta : (j : ℕ) → delta (multiplier z) z.b z.k z.s j (columns_at at own z.b) ≡ delta_of z j (own_new z own w)
  unfolding delta_of
  news_delta j = delta_same (multiplier z) z.b z.k z.s j _ _ news_columns

-- ---- as cells of the area, where the part is that of their node

module _ (z : Shape) (ok : InRanges z) (w : ℕ) (l : w < kept z) (area : List ℕ) (long : length area ≡ area_length z) where
  pub own_new_law : (t : ℕ) → t < z.s → own_new z (part_of z (sender z w) area) w t ≡ new_block z area w t
  unfolding own_new new_block
  own_new_law t h =
      own_cell z (sender z w) (sender_there z ok w l) area long (source_slot z w t) (source_inside z ok w l t h)
      ∙ ap (λ v. cell z area v (source_slot z w t)) (sym (source_sender z w))

  pub own_delta : (j : ℕ) → delta_of z j (own_new z (part_of z (sender z w) area) w) ≡ delta_of z j (new_block z area w)
  unfolding delta_of
  own_delta j = delta_same (multiplier z) z.b z.k z.s j _ _ own_new_law

  pub own_row0 : slot (part_of z (sender z w) area) z.b w ≡ row z area w 0
  unfolding row
  own_row0 =
      own_cell z (sender z w) (sender_there z ok w l) area long w (sender_slots z ok w l)
      ∙ ap (λ v. cell z area v w) (sender_row_0 z ok w)
