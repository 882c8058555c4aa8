-- The one message of a transfer, from the area that begin accepted, carries the payload of the growth without bytes. Assumes nothing.
use mathlib.Core.Path.{◌≡◌, ap, sym, ◌∙◌}
use mathlib.Core.List.{List}
use Prim.Native.Nat.{ℕ, ◌+◌, ◌<◌}
use native.Mathlib.Omega.{arith}
use lib.Dec.{eqb}
use Rattle.base.proofs.Choice.{if_both}
use Rattle.area.proofs.Sums.{length_xor_blocks}
use Rattle.code.proofs.Laws.{delta_same}
use Rattle.layout.specs.declared.Shape.{Shape}
use Rattle.layout.specs.Ranges.{InRanges}
use Rattle.layout.specs.Counts.{kept, transfers}
use Rattle.layout.specs.Addresses.{node_slots}
use Rattle.layout.specs.Nodes.{row_node}
use Rattle.layout.specs.Sources.{source_node, source_slot}
use Rattle.layout.specs.Transfers.{new_node_of, transfer_kind}
use Rattle.layout.proofs.AddressLaws.{slots_old, kept_slots}
use Rattle.layout.proofs.SourceLaws.{taken, source_node_lt}
use Rattle.wire.specs.Headers.{message}
use Rattle.protocol.specs.Image.{payload_of}
use Rattle.growth.specs.Cells.{multiplier, new_block, delta_of}
use Rattle.growth.specs.Begin.{begun_area}
use Rattle.growth.specs.Compute.{computed_area}
use Rattle.growth.specs.Send.{payload_from, payload}
use Rattle.growth.proofs.CellLaws.{cell_other}
use Rattle.history.specs.Begun.{Begun}
use Rattle.history.specs.Completions.{message_for}
use Rattle.history.proofs.Growths.{growth_of}
use Rattle.history.proofs.BegunCells.{start_source, computed_row0}

module _ (z : Shape) (ok : InRanges z) where
  -- a payload looks at the s new blocks and at row 0
  payload_same : (w e : ℕ) → e < transfers z → (x y : ℕ → List ℕ) (p q : List ℕ) → ((t : ℕ) → t < z.s → x t ≡ y t) → p ≡ q
      → payload_from z w e x p ≡ payload_from z w e y q
  unfolding payload_from delta_of transfers
  payload_same w e m x y p q news row0 =
      if_both (λ (a b : List ℕ). a ≡ b) (eqb (transfer_kind z w e) 1) _ _ _ _
      (λ h. delta_same (multiplier z) z.b z.k z.s (e + 1) x y news)
      (λ h. if_both (λ (a b : List ℕ). a ≡ b) (eqb (transfer_kind z w e) 3) _ _ _ _
      (λ h. row0) (λ h. news (new_node_of z e) (omega (arith, ok.some_new))))

  -- compute writes row 0 alone, in a slot below P, where no new block comes from
  sources_left : (area : List ℕ) (w t : ℕ) → w < kept z → t < z.s → new_block z (computed_area z area w) w t ≡ new_block z area w t
  unfolding new_block computed_area
  sources_left area w t l m =
      let x = taken z ok w t l m in
      let there : source_slot z w t < node_slots z (source_node z w) = rw (slots_old z _ (source_node_lt z ok w)) x.under in
      cell_other z area (row_node z w 0) w (source_node z w) (source_slot z w t) _ (omega (arith, kept_slots z (row_node z w 0))) there
      (length_xor_blocks z.b _ _) (λ node slot. omega (arith, x.from))

pub message_one : (z : Shape) (area : List ℕ) (number : ℕ) → Begun z area number
    → (w e : ℕ) → w < kept z → e < transfers z
    → message_for z area number w e ≡ message z w e number (payload_of (growth_of z (begun_area z area)) w e)
unfolding message_for payload
message_one z area number f w e l m =
    ap (message z w e number)
    (payload_same z f.in_ranges w e m _ _ _ _
    (λ t h. sources_left z f.in_ranges area w t l h ∙ sym (start_source z area number f w t l h))
    (sym (computed_row0 z area number f w l)))
