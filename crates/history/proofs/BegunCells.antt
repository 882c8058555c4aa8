-- What the growth starts from, and comes to, cell by cell, from the area that begin accepted: the blocks of the new stripes. Assumes
-- nothing.
use mathlib.Core.Path.{◌≡◌, refl, sym, ap₂, ◌∙◌}
use mathlib.Core.Bool.{Bool, true, false, ◌&&◌}
use mathlib.Core.List.{List}
use Prim.Native.Nat.{ℕ, ◌+◌, ◌-◌, ◌<◌}
use native.Mathlib.Nat.{add-sub_cancel_left}
use native.Mathlib.Omega.{arith}
use lib.Dec.{eqb}
use borrow.Author.Tests.{lt-ltb, le-ltb}
use Rattle.base.specs.Tests.{if}
use Rattle.area.specs.Area.{xor_blocks}
use Rattle.area.proofs.Sums.{length_xor_blocks}
use Rattle.code.proofs.Laws.{delta_same}
use Rattle.layout.specs.declared.Shape.{Shape}
use Rattle.layout.specs.Ranges.{rows}
use Rattle.layout.specs.Counts.{kept, stripes}
use Rattle.layout.specs.Nodes.{row_node}
use Rattle.layout.specs.Closed.{swapped, swap_index}
use Rattle.layout.specs.Transfers.{transfer_kind}
use Rattle.layout.specs.Roles.{kept_data, source}
use Rattle.layout.proofs.NodeLaws.{row_node_lt, data_node_lt}
use Rattle.layout.proofs.SourceLaws.{taken, source_node_lt}
use Rattle.layout.proofs.AddressLaws.{kept_slots}
use Rattle.protocol.specs.Image.{new_row0, new_target}
use Rattle.growth.specs.Cells.{column, row, multiplier, new_block, delta_of}
use Rattle.growth.specs.Begin.{begun_area}
use Rattle.growth.specs.Compute.{computed_area}
use Rattle.growth.specs.Send.{payload_from, payload}
use Rattle.growth.specs.Deliver.{received}
use Rattle.growth.specs.ClosedArea.{new_stripe_row}
use Rattle.growth.specs.Claims.{FreshRows}
use Rattle.growth.proofs.CellLaws.{cell_same}
use Rattle.growth.proofs.BeginCells.{begin_cells}
use Rattle.growth.proofs.FreshRows.{fresh_rows}
use Rattle.history.specs.Begun.{Begun}
use Rattle.history.proofs.Growths.{seen, growth_of}
use Rattle.history.proofs.Begins.{holds}
use Rattle.history.proofs.RoleCells.{seen_column, seen_row, seen_source, seen_delta}

-- kind 3 brings row 0, kind 2 the new block
by_kind : {Block : Type 0} (turns : Bool) (delta row0 : Block) {new new' : Block} → new ≡ new'
    → if (eqb (if turns 3 2) 1) delta (if (eqb (if turns 3 2) 3) row0 new) ≡ if turns row0 new'
by_kind true delta row0 e = refl
by_kind false delta row0 e = e

module _ (z : Shape) (area : List ℕ) (number : ℕ) (f : Begun z area number) where
  stripes_kept : (w : ℕ) → w < kept z → w < stripes z
  unfolding stripes
  stripes_kept w l = omega arith

  -- ---- begin leaves the cells of old nodes

  pub start_column : (w d : ℕ) → w < kept z → d < z.k → seen z (begun_area z area) (kept_data w d) ≡ column z area w d
  unfolding column
  start_column w d l m =
      seen_column z (begun_area z area) w d l m
      ∙ (begin_cells z f.in_ranges area f.long).old _ w (data_node_lt z f.in_ranges w d) (stripes_kept w l)

  pub row_left : (w j : ℕ) → w < kept z → row z (begun_area z area) w j ≡ row z area w j
  unfolding row
  row_left w j l = (begin_cells z f.in_ranges area f.long).old _ w (row_node_lt z f.in_ranges w j) (stripes_kept w l)

  pub start_source : (w t : ℕ) → w < kept z → t < z.s → seen z (begun_area z area) (source w t) ≡ new_block z area w t
  unfolding new_block
  start_source w t l m =
      seen_source z (begun_area z area) w t l m
      ∙ (begin_cells z f.in_ranges area f.long).old _ _ (source_node_lt z f.in_ranges w) (taken z f.in_ranges w t l m).under

  pub start_delta : (w j : ℕ) → w < kept z → delta_of z j (λ t. seen z (begun_area z area) (source w t)) ≡ delta_of z j (new_block z area w)
  unfolding delta_of
  start_delta w j l = delta_same (multiplier z) z.b z.k z.s j _ (new_block z area w) (λ t m. start_source w t l m)

  -- ---- the fresh rows

  module _ (w : ℕ) (l : w < kept z) where
    abbrev fresh : FreshRows z area w
    fresh = fresh_rows z f.in_ranges area f.long w l (holds z area number f w (stripes_kept w l))

    -- row 0 as compute leaves it
    pub computed_row0 : new_row0 (growth_of z (begun_area z area)) w ≡ row z (computed_area z area w) w 0
    unfolding computed_area row
    computed_row0 =
        ap₂ (xor_blocks z.b) (seen_row z (begun_area z area) w 0 l (omega (arith, f.in_ranges.some_rows)) ∙ row_left w 0 l)
        (start_delta w 0 l)
        ∙ sym (cell_same z area (row_node z w 0) w _ f.long (omega (arith, row_node_lt z f.in_ranges w 0))
        (omega (arith, kept_slots z (row_node z w 0))) (length_xor_blocks z.b _ _))

    pub fresh_row0 : new_row0 (growth_of z (begun_area z area)) w ≡ new_stripe_row z area w 0
    fresh_row0 = computed_row0 ∙ fresh.computed

    -- to node n + t goes new block t, or of a swapped stripe's y row 0
    pub brought : (t : ℕ) → t < z.s → new_target (growth_of z (begun_area z area)) w (rows z - 1 + t)
        ≡ if (swapped z w && eqb t (swap_index z w)) (new_row0 (growth_of z (begun_area z area)) w) (new_block z area w t)
    unfolding payload_from transfer_kind
    brought t m =
        rw (le-ltb (rows z - 1 + t) (rows z - 1) (omega arith), add-sub_cancel_left (rows z - 1) t)
        (by_kind (swapped z w && eqb t (swap_index z w)) _ _ (start_source w t l m))

    -- any other row is where it was, with its delta
    pub fresh_row : (e : ℕ) → e < rows z - 1 → new_target (growth_of z (begun_area z area)) w e ≡ new_stripe_row z area w (e + 1)
    unfolding payload_from transfer_kind received payload
    fresh_row e m =
        rw (lt-ltb e (rows z - 1) m)
        (ap₂ (xor_blocks z.b) (seen_delta z (begun_area z area) w e l m ∙ row_left w (e + 1) l) (start_delta w (e + 1) l)
        ∙ rw (lt-ltb e (rows z - 1) m) at (fresh.delivered e m))
