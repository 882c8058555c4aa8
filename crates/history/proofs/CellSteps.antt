-- What each call does to the area is, seen as cells, what the call does in the growth without bytes. Assumes nothing.
use mathlib.Core.Path.{◌≡◌, refl, sym, ap, ◌∙◌}
use mathlib.Core.Bool.{true}
use mathlib.Core.List.{List}
use Prim.Native.Nat.{ℕ, ◌+◌, ◌<◌}
use native.Mathlib.Omega.{arith}
use lib.Dec.{eqb}
use lib.ListN.{length}
use Rattle.base.specs.Tests.{if, same, same2}
use Rattle.base.proofs.Choice.{if_cases, if_both}
use Rattle.base.proofs.Tests.{clash, same_eq, same_not, same2_left, same2_right}
use Rattle.area.specs.Area.{block, zeros, xor_blocks}
use Rattle.area.proofs.Blocks.{length_block}
use Rattle.area.proofs.Sums.{length_xor_blocks}
use Rattle.code.proofs.Laws.{delta_same}
use Rattle.layout.specs.declared.Shape.{Shape}
use Rattle.layout.specs.Ranges.{InRanges}
use Rattle.layout.specs.Counts.{kept, transfers}
use Rattle.layout.specs.Addresses.{area_length}
use Rattle.layout.specs.Nodes.{row_node}
use Rattle.layout.specs.Sources.{source_node, source_slot}
use Rattle.layout.specs.Closed.{swapped, swap_index}
use Rattle.layout.specs.Transfers.{is_delta, new_node_of, receiver, transfer_kind}
use Rattle.layout.specs.Roles.{Role, kept_data, kept_row, source, dissolved_row, role_exists, role_node, role_slot}
use Rattle.layout.proofs.ClosedLaws.{turn_lt}
use Rattle.layout.proofs.NodeLaws.{row_node_lt}
use Rattle.layout.proofs.SourceLaws.{source_node_lt, taken}
use Rattle.layout.proofs.TransferLaws.{sender_row_0}
use Rattle.layout.proofs.RoleLaws.{role_cell}
use Rattle.protocol.specs.Parts.{Cells}
use Rattle.protocol.specs.World.{set_row0, set_target, set_sources, set_dissolved}
use Rattle.protocol.specs.Steps as Steps
use Rattle.growth.specs.Cells.{cell, put_cell, row, new_block, delta_of, multiplier}
use Rattle.growth.specs.Compute.{computed_area}
use Rattle.growth.specs.Send.{payload_from, payload}
use Rattle.growth.specs.Deliver.{received, delivered_area}
use Rattle.growth.specs.Release.{released_area}
use Rattle.growth.specs.Close.{cleared_area}
use Rattle.growth.specs.Claims.{ReleaseCells, CloseCells}
use Rattle.growth.proofs.LocalCells.{source_sender}
use Rattle.growth.proofs.ReleaseCells as Release
use Rattle.growth.proofs.CloseCells as Close
use Rattle.history.proofs.Growths.{seen, target_role, cells_of, growth_of}
use Rattle.history.proofs.RoleNames.{stripe_in, other_kind, target_other, target_slot, target_node, targets_differ, row_exists}
use Rattle.history.proofs.RoleNames.{source_exists, target_exists, data_kept, row_kept, source_kept, source_below, target_kept}
use Rattle.history.proofs.RoleNames.{dissolved_from, dissolved_below}
use Rattle.history.proofs.RoleCells.{seen_row, seen_source}
use Rattle.history.proofs.SeenCells.{seen_there, seen_same, seen_zeros, one_role, put_there, put_others}

-- two sets of cells that hold the same in each place are the same
cells_ext : {Block : Type 0} (a b : Cells Block) → ((w d : ℕ) → a.column w d ≡ b.column w d) → ((w : ℕ) → a.row0 w ≡ b.row0 w)
    → ((w e : ℕ) → a.target w e ≡ b.target w e) → ((w t : ℕ) → a.source w t ≡ b.source w t)
    → ((g j : ℕ) → a.dissolved_row g j ≡ b.dissolved_row g j) → a ≡ b
cells_ext a b p q r s t = λ i. record {
  column = λ w d. p w d i;
  row0 = λ w. q w i;
  target = λ w e. r w e i;
  source = λ w n. s w n i;
  dissolved_row = λ g j. t g j i;
}

module _ (z : Shape) (ok : InRanges z) where
  row0_there : (w : ℕ) → w < kept z → role_exists z (kept_row w 0) ≡ true
  row0_there w l = row_exists z w 0 l (omega (arith, ok.some_rows))

  -- ---- what a call on kept stripe w reads
  row0_seen : (area : List ℕ) (w : ℕ) → w < kept z → row z area w 0 ≡ (cells_of z area).row0 w
  row0_seen area w l = sym (seen_row z area w 0 l (omega (arith, ok.some_rows)))

  new_seen : (area : List ℕ) (w t : ℕ) → w < kept z → t < z.s → new_block z area w t ≡ (cells_of z area).source w t
  new_seen area w t l h = sym (seen_source z area w t l h)

  delta_seen : (area : List ℕ) (w j : ℕ) → w < kept z → delta_of z j (new_block z area w) ≡ delta_of z j ((cells_of z area).source w)
  unfolding delta_of
  delta_seen area w j l =
      delta_same (multiplier z) z.b z.k z.s j (new_block z area w) ((cells_of z area).source w) (λ t h. new_seen area w t l h)

  pub payload_seen : (area : List ℕ) (w e : ℕ) → w < kept z → e < transfers z
      → payload z area w e ≡ payload_from z w e ((cells_of z area).source w) ((cells_of z area).row0 w)
  unfolding payload payload_from transfers
  payload_seen area w e l h = if_both (λ (x y : List ℕ). x ≡ y) (eqb (transfer_kind z w e) 1) _ _ _ _ (λ _. delta_seen area w (e + 1) l)
      (λ _. if_both (λ (x y : List ℕ). x ≡ y) (eqb (transfer_kind z w e) 3) _ _ _ _ (λ _. row0_seen area w l)
      (λ _. new_seen area w (new_node_of z e) l (omega (arith, ok.some_new))))

  -- ---- compute
  pub compute_cells : (area : List ℕ) (w : ℕ) → length area ≡ area_length z → w < kept z
      → cells_of z (computed_area z area w)
      ≡ set_row0 (cells_of z area) w (xor_blocks z.b ((cells_of z area).row0 w) (delta_of z 0 ((cells_of z area).source w)))
  unfolding computed_area
  compute_cells area w long l = rw (row0_seen area w l, delta_seen area w 0 l) (cells_ext _ _
      (λ x d. others (kept_data x d) (other_kind (kept_row w 0) (kept_data x d) refl))
      (λ x. if_cases (λ (y : List ℕ). seen z left (kept_row x 0) ≡ y) (same x w) _ _
      (λ e. rw (same_eq x w e) here) (λ e. others (kept_row x 0) (λ q. same_not x w e (sym (ap stripe_in q)))))
      (λ x f. others (target_role z x f) (λ q. target_other z x f (kept_row w 0) refl (sym q)))
      (λ x t. others (source x t) (other_kind (kept_row w 0) (source x t) refl))
      (λ g j. others (dissolved_row g j) (other_kind (kept_row w 0) (dissolved_row g j) refl)))
    where
      new : List ℕ
      new = xor_blocks z.b ((cells_of z area).row0 w) (delta_of z 0 ((cells_of z area).source w))

      size : length new ≡ z.b
      size = length_xor_blocks z.b _ _

      left : List ℕ
      left = put_cell z area (role_node z (kept_row w 0)) w new

      here : seen z left (kept_row w 0) ≡ new
      here = put_there z ok area (kept_row w 0) new (row0_there w l) size long

      others : (c : Role) → (kept_row w 0 ≡ c → ⊥) → seen z left c ≡ seen z area c
      others = put_others z ok area (kept_row w 0) new (row0_there w l) size

  -- ---- deliver
  -- the cell is that of the transfer's role
  delivered_is : (start area message : List ℕ) (w e : ℕ) → w < kept z → e < transfers z → let a = target_role z w e in
      delivered_area z area (receiver z w e) w e message
      ≡ put_cell z area (role_node z a) (role_slot z a) (Steps.received (growth_of z start) e (seen z area a) (block message 16 z.b))
  unfolding delivered_area received
  delivered_is start area message w e l h =
      rw (seen_there z area (target_role z w e) (target_exists z w e l h), target_node z w e, target_slot z w e)

  pub deliver_cells : (start area message : List ℕ) (w e : ℕ) → length area ≡ area_length z → w < kept z → e < transfers z
      → cells_of z (delivered_area z area (receiver z w e) w e message)
      ≡ set_target (cells_of z area) w e (Steps.received (growth_of z start) e ((cells_of z area).target w e) (block message 16 z.b))
  deliver_cells start area message w e long l h = rw (delivered_is start area message w e l h) (cells_ext _ _
      (λ x d. others (kept_data x d) (target_other z w e (kept_data x d) refl))
      (λ x. others (kept_row x 0) (target_other z w e (kept_row x 0) refl))
      (λ x f. if_cases (λ (y : List ℕ). seen z left (target_role z x f) ≡ y) (same2 x w f e) _ _
      (λ q. rw (same2_left x w f e q, same2_right x w f e q) here) (λ q. others (target_role z x f) (targets_differ z w e x f q)))
      (λ x t. others (source x t) (target_other z w e (source x t) refl))
      (λ g j. others (dissolved_row g j) (target_other z w e (dissolved_row g j) refl)))
    where
      new : List ℕ
      new = Steps.received (growth_of z start) e (seen z area (target_role z w e)) (block message 16 z.b)

      size : length new ≡ z.b
      size =
          if_cases (λ (x : List ℕ). length x ≡ z.b) (is_delta z e) _ _ (λ _. length_xor_blocks z.b _ _)
          (λ _. length_block message 16 z.b)

      left : List ℕ
      left = put_cell z area (role_node z (target_role z w e)) (role_slot z (target_role z w e)) new

      here : seen z left (target_role z w e) ≡ new
      here = put_there z ok area (target_role z w e) new (target_exists z w e l h) size long

      others : (c : Role) → (target_role z w e ≡ c → ⊥) → seen z left c ≡ seen z area c
      others = put_others z ok area (target_role z w e) new (target_exists z w e l h) size

  -- ---- release
  module _ (area : List ℕ) (w : ℕ) (long : length area ≡ area_length z) (l : w < kept z) where
    released : ReleaseCells z area w
    released = Release.release_cells z ok area long w l

    row0_node : row_node z w 0 ≡ source_node z w
    row0_node = sym (sender_row_0 z ok w) ∙ sym (source_sender z w)

    released_others : (c : Role) → ((t : ℕ) → source w t ≡ c → ⊥) → (swapped z w ≡ true → kept_row w 0 ≡ c → ⊥)
        → seen z (released_area z area w) c ≡ seen z area c
    released_others c p q = seen_same z area (released_area z area w) c
        (λ e. released.others (role_node z c) (role_slot z c) (role_cell z ok c e).slot
        (λ t h v g. p t (one_role z ok (source w t) c (source_exists z w t l h) e v g))
        (λ s v g. q s (one_role z ok (kept_row w 0) c (row0_there w l) e (row0_node ∙ v) g)))

    released_source : (t : ℕ) → seen z (released_area z area w) (source w t) ≡ zeros z.b
    released_source t = seen_zeros z (released_area z area w) (source w t) (λ e. released.sources t (source_below z w t e))

    -- only the swapped block's move changes row 0's cell
    released_row0 : seen z (released_area z area w) (kept_row w 0)
        ≡ if (swapped z w) ((cells_of z area).source w (swap_index z w)) ((cells_of z area).row0 w)
    released_row0 = if_cases (λ (y : List ℕ). seen z (released_area z area w) (kept_row w 0) ≡ y) (swapped z w) _ _
        (λ s. seen_there z (released_area z area w) (kept_row w 0) (row0_there w l)
        ∙ (ap (λ (v : ℕ). cell z (released_area z area w) v w) row0_node
        ∙ (released.swap s ∙ new_seen area w (swap_index z w) l (turn_lt z ok w))))
        (λ s. released_others (kept_row w 0) (λ t. other_kind (source w t) (kept_row w 0) refl) (λ u. absurd (clash u s)))

    pub release_cells : cells_of z (released_area z area w)
        ≡ set_sources (set_row0 (cells_of z area) w
        (if (swapped z w) ((cells_of z area).source w (swap_index z w)) ((cells_of z area).row0 w))) w
        (zeros z.b)
    release_cells = cells_ext _ _
        (λ x d. neither (kept_data x d) (λ t. other_kind (source w t) (kept_data x d) refl)
        (other_kind (kept_row w 0) (kept_data x d) refl))
        (λ x. if_cases (λ (y : List ℕ). seen z (released_area z area w) (kept_row x 0) ≡ y) (same x w) _ _
        (λ e. rw (same_eq x w e) released_row0)
        (λ e. neither (kept_row x 0) (λ t. other_kind (source w t) (kept_row x 0) refl) (λ q. same_not x w e (sym (ap stripe_in q)))))
        (λ x f. neither (target_role z x f) (λ t q. target_other z x f (source w t) refl (sym q))
        (λ q. target_other z x f (kept_row w 0) refl (sym q)))
        (λ x t. if_cases (λ (y : ℕ → List ℕ). seen z (released_area z area w) (source x t) ≡ y t) (same x w) _ _
        (λ e. rw (same_eq x w e) (released_source t))
        (λ e. neither (source x t) (λ u q. same_not x w e (sym (ap stripe_in q))) (other_kind (kept_row w 0) (source x t) refl)))
        (λ g j. neither (dissolved_row g j) (λ t. other_kind (source w t) (dissolved_row g j) refl)
        (other_kind (kept_row w 0) (dissolved_row g j) refl))
      where
        neither : (c : Role) → ((t : ℕ) → source w t ≡ c → ⊥) → (kept_row w 0 ≡ c → ⊥) → seen z (released_area z area w) c ≡ seen z area c
        neither c p q = released_others c p (λ _. q)

  -- ---- close
  pub close_cells : (area : List ℕ) → length area ≡ area_length z
      → cells_of z (cleared_area z area) ≡ set_dissolved (cells_of z area) (zeros z.b)
  close_cells area long = cells_ext _ _
      (λ x d. others (kept_data x d) (data_kept z x d))
      (λ x. others (kept_row x 0) (row_kept z x 0))
      (λ x f. others (target_role z x f) (λ e. rw (target_slot z x f) (target_kept z x f e)))
      (λ x t. seen_zeros z left (source x t) (λ e. let s = taken z ok x t (source_kept z x t e) (source_below z x t e) in
      cells.dissolved (source_node z x) (source_slot z x t) (source_node_lt z ok x) s.from s.under))
      (λ g j. seen_zeros z left (dissolved_row g j)
      (λ e. cells.dissolved (row_node z g j) g (row_node_lt z ok g j) (dissolved_from z g j e) (dissolved_below z g j e)))
    where
      left : List ℕ
      left = cleared_area z area

      cells : CloseCells z area
      cells = Close.close_cells z ok area long

      others : (c : Role) → (role_exists z c ≡ true → role_slot z c < kept z) → seen z left c ≡ seen z area c
      others c p = seen_same z area left c (λ e. cells.others (role_node z c) (role_slot z c) (role_cell z ok c e).node (p e))
