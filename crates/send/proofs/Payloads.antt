-- The block of a transfer, in the sender's part of the area: how the code finds it, and that it is the area's. Assumes nothing.
use mathlib.Core.Path.{◌≡◌, sym, ap, ◌∙◌}
use mathlib.Core.List.{List}
use Prim.Native.Nat.{ℕ, ◌+◌, ◌*◌, ◌<◌}
use lib.Dec.{eqb}
use lib.ListN.{length}
use borrow.Author.Tests.{eq-eqb, ne_eqb}
use Rattle.base.proofs.Choice.{if_cases, if_both, if_true}
use Rattle.area.specs.Area.{block, put, slot}
use Rattle.area.proofs.Slots.{length_slot}
use Rattle.combine.specs.Columns.{columns_at}
use Rattle.code.specs.Rows.{delta}
use Rattle.layout.specs.declared.Shape.{Shape}
use Rattle.layout.specs.Ranges.{InRanges}
use Rattle.layout.specs.Counts.{kept, stripes, transfers}
use Rattle.layout.specs.Addresses.{area_length}
use Rattle.layout.specs.Sources.{source_slot}
use Rattle.layout.specs.Transfers.{new_node_of, sender, transfer_kind}
use Rattle.growth.specs.Cells.{delta_of, multiplier}
use Rattle.growth.specs.Send.{payload_from, payload}
use Rattle.growth.proofs.BlockLaws.{length_delta_of}
use Rattle.parts.specs.Own.{part_of, own_new, NewOffsets}
use Rattle.parts.proofs.News.{news_delta, own_new_law, own_delta, own_row0}
use Rattle.send.specs.Own.{own_payload}
use Rattle.send.proofs.ByKind.{new_node_lt}

pub length_payload : (z : Shape) (own : List ℕ) (w e : ℕ) → length (own_payload z own w e) ≡ z.b
unfolding own_payload payload_from own_new
length_payload z own w e =
    if_cases (λ (x : List ℕ). length x ≡ z.b) (eqb (transfer_kind z w e) 1) _ _ (λ p. length_delta_of z _ _)
    (λ p. if_cases (λ (x : List ℕ). length x ≡ z.b) (eqb (transfer_kind z w e) 3) _ _ (λ q. length_slot own z.b w)
    (λ q. length_slot own z.b _))

-- ---- as the code writes it, at place 16 of the space

module _ (z : Shape) (w e : ℕ) (own space : List ℕ) {out : List ℕ} where
  pub wrote_delta : 1 ≡ transfer_kind z w e → InRanges z → w < kept z → (at : List ℕ) → NewOffsets z w at → length own ≡ stripes z * z.b
      → out ≡ put space 16 (delta (multiplier z) z.b z.k z.s (e + 1) (columns_at at own z.b))
      → out ≡ put space 16 (own_payload z own w e)
  unfolding own_payload payload_from
  wrote_delta k ok l at offsets long q =
      let p : delta_of z (e + 1) (own_new z own w) ≡ own_payload z own w e =
      sym (if_true _ _ _ (eq-eqb (transfer_kind z w e) 1 (sym k))) in
      q ∙ ap (put space 16) (news_delta z ok w l at offsets own long (e + 1) ∙ p)

  pub wrote_row0 : 3 ≡ transfer_kind z w e → out ≡ put space 16 (block own (w * z.b) z.b) → out ≡ put space 16 (own_payload z own w e)
  unfolding own_payload payload_from slot
  wrote_row0 k q = rw (← k) q

  pub wrote_new : (transfer_kind z w e ≡ 1 → ⊥) → (transfer_kind z w e ≡ 3 → ⊥) → {g : ℕ} → g ≡ source_slot z w (new_node_of z e)
      → out ≡ put space 16 (block own (g * z.b) z.b) → out ≡ put space 16 (own_payload z own w e)
  unfolding own_payload payload_from own_new slot
  wrote_new delta row {g} at q =
      rw (ne_eqb (transfer_kind z w e) 1 delta, ne_eqb (transfer_kind z w e) 3 row)
      (q ∙ ap (λ x. put space 16 (block own (x * z.b) z.b)) at)

-- ---- it is the area's

pub part_payload : (z : Shape) → InRanges z → (w : ℕ) → w < kept z → (e : ℕ) → e < transfers z → (area : List ℕ)
    → length area ≡ area_length z
    → own_payload z (part_of z (sender z w) area) w e ≡ payload z area w e
unfolding own_payload payload payload_from
part_payload z ok w lw e le area long =
    if_both ◌≡◌ (eqb (transfer_kind z w e) 1) _ _ _ _ (λ p. own_delta z ok w lw area long (e + 1))
    (λ p. if_both ◌≡◌ (eqb (transfer_kind z w e) 3) _ _ _ _ (λ q. own_row0 z ok w lw area long)
    (λ q. own_new_law z ok w lw area long (new_node_of z e) (new_node_lt z w e ok le)))
