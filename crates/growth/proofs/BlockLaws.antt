-- Every block that a call reads or makes has B bytes. Assumes nothing.
use mathlib.Core.Path.{◌≡◌}
use mathlib.Core.List.{List}
use Prim.Native.Nat.{ℕ}
use lib.Dec.{eqb}
use lib.ListN.{length}
use Rattle.base.proofs.Choice.{if_cases}
use Rattle.area.proofs.Sums.{length_xor_blocks}
use Rattle.code.proofs.Laws.{length_delta}
use Rattle.layout.specs.declared.Shape.{Shape}
use Rattle.layout.specs.Nodes.{row_node}
use Rattle.layout.specs.Sources.{source_node, source_slot}
use Rattle.layout.specs.Transfers.{is_delta, new_node_of, transfer_kind}
use Rattle.growth.specs.Cells.{row, multiplier, new_block, delta_of}
use Rattle.growth.specs.Send.{payload_from, payload}
use Rattle.growth.specs.Deliver.{received}
use Rattle.growth.proofs.CellLaws.{length_cell}

module _ (z : Shape) where
  pub length_row : (area : List ℕ) (g j : ℕ) → length (row z area g j) ≡ z.b
  unfolding row
  length_row area g j = length_cell z area (row_node z g j) g

  pub length_new_block : (area : List ℕ) (w t : ℕ) → length (new_block z area w t) ≡ z.b
  unfolding new_block
  length_new_block area w t = length_cell z area (source_node z w) (source_slot z w t)

  pub length_delta_of : (j : ℕ) (news : ℕ → List ℕ) → length (delta_of z j news) ≡ z.b
  unfolding delta_of
  length_delta_of j news = length_delta (multiplier z) z.b z.k z.s j news

  pub length_payload : (area : List ℕ) (w e : ℕ) → length (payload z area w e) ≡ z.b
  unfolding payload payload_from
  length_payload area w e =
      if_cases (λ (x : List ℕ). length x ≡ z.b) (eqb (transfer_kind z w e) 1) _ _ (λ p. length_delta_of _ (new_block z area w))
      (λ p. if_cases (λ (x : List ℕ). length x ≡ z.b) (eqb (transfer_kind z w e) 3) _ _ (λ q. length_row area w _)
      (λ q. length_new_block area w (new_node_of z e)))

  pub length_received : (e : ℕ) (old new : List ℕ) → length new ≡ z.b → length (received z e old new) ≡ z.b
  unfolding received
  length_received e old new l = if_cases (λ (x : List ℕ). length x ≡ z.b) (is_delta z e) _ _ (λ p. length_xor_blocks z.b _ _) (λ p. l)
