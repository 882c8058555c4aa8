-- The cells that the growth without bytes sees are the area's own, role by role. Assumes nothing.
use mathlib.Core.Path.{◌≡◌, refl, sym, ap, ap₂, ◌∙◌}
use mathlib.Core.Bool.{Bool, true, false, ◌&&◌}
use mathlib.Core.List.{List}
use Prim.Native.Nat.{ℕ, ◌+◌, ◌-◌, ◌≤◌, ◌<◌}
use native.Mathlib.Nat.{add-sub_cancel_left}
use native.Mathlib.Omega.{arith}
use lib.Dec.{ltb, eqb}
use borrow.Author.Tests.{lt-ltb, le-ltb, le-leb}
use Rattle.base.specs.Tests.{if}
use Rattle.base.proofs.Tests.{and_both}
use Rattle.layout.specs.declared.Shape.{Shape}
use Rattle.layout.specs.Ranges.{rows, InRanges}
use Rattle.layout.specs.Counts.{kept, stripes}
use Rattle.layout.specs.Nodes.{has_data, column_on}
use Rattle.layout.specs.Roles.{row_on, kept_data, kept_row, source, dissolved_row, new_cell}
use Rattle.layout.specs.Sources.{source_node, target_stripe, target_index}
use Rattle.layout.specs.Closed.{swapped, swap_index, new_block_node}
use Rattle.layout.specs.Transfers.{sender}
use Rattle.layout.proofs.NodeLaws.{data_found, row_found}
use Rattle.layout.proofs.SourceLaws.{given}
use Rattle.layout.proofs.TransferLaws.{sender_row_0}
use Rattle.protocol.specs.Reading.{end_of}
use Rattle.growth.specs.Cells.{cell, column, row, new_block}
use Rattle.history.proofs.Growths.{seen, target_role, cells_of, growth_of}
use Rattle.history.proofs.RoleNames.{row_exists, source_exists}
use Rattle.history.proofs.SeenCells.{seen_there}

both_below : (a b c d : ℕ) → a < b → c < d → ltb a b && ltb c d ≡ true
both_below a b c d l m = and_both (ltb a b) (ltb c d) (lt-ltb a b l) (lt-ltb c d m)

module _ (z : Shape) (area : List ℕ) where
  pub seen_column : (w d : ℕ) → w < kept z → d < z.k → seen z area (kept_data w d) ≡ column z area w d
  unfolding column
  seen_column w d l m = seen_there z area (kept_data w d) (both_below w (kept z) d z.k l m)

  pub seen_row : (w j : ℕ) → w < kept z → j < rows z → seen z area (kept_row w j) ≡ row z area w j
  unfolding row
  seen_row w j l m = seen_there z area (kept_row w j) (row_exists z w j l m)

  pub seen_source : (w t : ℕ) → w < kept z → t < z.s → seen z area (source w t) ≡ new_block z area w t
  unfolding new_block
  seen_source w t l m = seen_there z area (source w t) (source_exists z w t l m)

  -- ---- the cells that transfers are for: of a delta the row, of any other the cell on its new node

  pub seen_delta : (w e : ℕ) → w < kept z → e < rows z - 1 → seen z area (target_role z w e) ≡ row z area w (e + 1)
  unfolding target_role
  seen_delta w e l m = rw (lt-ltb e (rows z - 1) m) (seen_row w (e + 1) l (omega arith))

  pub seen_new : (w t : ℕ) → w < kept z → t < z.s → seen z area (target_role z w (rows z - 1 + t)) ≡ cell z area (z.n + t) w
  unfolding target_role
  seen_new w t l m =
      rw (le-ltb (rows z - 1 + t) (rows z - 1) (omega arith), add-sub_cancel_left (rows z - 1) t)
      (seen_there z area (new_cell w t) (both_below w (kept z) t z.s l m))

  -- ---- a dissolved slot of an old node: a new block's first place, or a row

  pub seen_dissolved : InRanges z → (block : List ℕ) → ((w t : ℕ) → seen z area (source w t) ≡ block)
      → ((g j : ℕ) → seen z area (dissolved_row g j) ≡ block)
      → (v g : ℕ) → v < z.n → kept z ≤ g → g < stripes z → cell z area v g ≡ block
  seen_dissolved ok block sources dissolved_rows v g l a h = go (has_data z v g) refl
    where
      go : (t : Bool) → has_data z v g ≡ t → cell z area v g ≡ block
      go true e =
          let c = data_found z ok v g l e in
          let x = given z ok g (column_on z g v) a h c.0 in
          let w = target_stripe z g (column_on z g v) in
          let t = target_index z g (column_on z g v) in
          ap₂ (cell z area) (sym (x.node ∙ c.1)) (sym x.slot)
          ∙ sym (seen_there z area (source w t) (source_exists z w t x.stripe x.index))
          ∙ sources w t
      go false e =
          let c = row_found z ok v g l e in
          let there = and_both _ _ (le-leb (kept z) g a) (both_below g (stripes z) (row_on z g v) (rows z) h c.0) in
          ap (λ (u : ℕ). cell z area u g) (sym c.1) ∙ sym (seen_there z area (dissolved_row g (row_on z g v)) there)
          ∙ dissolved_rows g (row_on z g v)

  -- ---- where a new block ends: the one whose turn it is in row 0's place, any other in its new node's cell

  pub seen_end : InRanges z → (start : List ℕ) (w t : ℕ) → w < kept z → t < z.s
      → end_of (growth_of z start) (cells_of z area) w t ≡ cell z area (new_block_node z w t) w
  unfolding new_block_node sender row
  seen_end ok start w t l m = go (swapped z w && eqb t (swap_index z w))
    where
      go : (b : Bool) → if b (seen z area (kept_row w 0)) (seen z area (target_role z w (rows z - 1 + t)))
          ≡ cell z area (if b (source_node z w) (z.n + t)) w
      go true = seen_row w 0 l (omega (arith, ok.some_rows)) ∙ ap (λ (v : ℕ). cell z area v w) (sym (sender_row_0 z ok w))
      go false = seen_new w t l m
