-- What the growth without bytes says of its cells, of the area's, role by role. Assumes nothing.
use mathlib.Core.Path.{◌≡◌, refl, sym, ap, ap₂, ◌∙◌}
use mathlib.Core.Bool.{Bool, true, false, ◌&&◌}
use mathlib.Core.List.{List}
use Prim.Native.Nat.{ℕ, zero, suc, ◌+◌, ◌-◌, ◌<◌}
use native.Mathlib.Numerals.{add-one}
use native.Mathlib.Omega.{arith}
use lib.Dec.{eqb, ltb}
use borrow.Author.Tests.{lt-ltb}
use Rattle.base.specs.Tests.{if}
use Rattle.base.proofs.Tests.{clash, second_lt}
use Rattle.area.specs.Area.{zeros, xor_blocks}
use Rattle.layout.specs.declared.Shape.{Shape}
use Rattle.layout.specs.Ranges.{rows}
use Rattle.layout.specs.Counts.{kept, transfers}
use Rattle.layout.specs.Nodes.{row_node}
use Rattle.layout.specs.Closed.{swapped, swap_index}
use Rattle.layout.specs.Transfers.{transfer_kind}
use Rattle.layout.specs.Roles.{Role, kept_data, kept_row, source, dissolved_row, new_cell, role_exists, role_node, role_slot}
use Rattle.layout.proofs.NodeLaws.{row_node_lt}
use Rattle.layout.proofs.ClosedLaws.{turn_lt}
use Rattle.records.specs.Records.{is_accepted}
use Rattle.journal.specs.States.{is_closed}
use Rattle.journal.specs.Journal.{header_of, state_of, record_at}
use Rattle.protocol.specs.Parts.{Growth}
use Rattle.protocol.specs.Image.{new_row0, new_target, cells_for}
use Rattle.protocol.specs.Invariant.{Invariant}
use Rattle.growth.specs.Cells.{cell, row, new_block, delta_of}
use Rattle.growth.specs.Begin.{begun_area}
use Rattle.growth.specs.Send.{payload_from}
use Rattle.growth.proofs.BeginCells.{begin_cells}
use Rattle.history.specs.Contents.{Contents}
use Rattle.history.specs.Begun.{Begun}
use Rattle.history.proofs.Growths.{seen, growth_of, view_of}
use Rattle.history.proofs.StatesSeen.{closed_same}
use Rattle.history.proofs.RoleNames.{source_exists, data_kept, row_kept, source_kept, source_below, dissolved_below}
use Rattle.history.proofs.SeenCells.{seen_there}
use Rattle.history.proofs.RoleCells.{seen_row, seen_delta, seen_new}
use Rattle.history.proofs.BegunCells.{start_column, start_source, start_delta, row_left, brought}
use Rattle.stages.specs.Cells.{changed_row, held_by}

-- ---- by marks

-- a released stripe is computed, so its row 0 is the changed one unless the move replaced it
row0_by_marks : {Block : Type 0} (released swaps computed : Bool) {moved new old moved' new' old' : Block}
    → (released ≡ true → computed ≡ true) → moved ≡ moved' → new ≡ new' → old ≡ old'
    → if released (if swaps moved new) (if computed new old) ≡ if (released && swaps) moved' (if computed new' old')
row0_by_marks true true computed h p q r = p
row0_by_marks true false true h p q r = q
row0_by_marks true false false h p q r = absurd (clash (h refl) refl)
row0_by_marks false swaps true h p q r = q
row0_by_marks false swaps false h p q r = r

-- once closed, every stripe is released
source_by_marks : {Block : Type 0} (closed released : Bool) (none : Block) {there there' : Block}
    → (closed ≡ true → released ≡ true) → there ≡ there'
    → if closed none (if released none there) ≡ if released none there'
source_by_marks true true none h p = refl
source_by_marks true false none h p = absurd (clash (h refl) refl)
source_by_marks false true none h p = refl
source_by_marks false false none h p = p

module _ (z : Shape) (old : List ℕ) (number : ℕ) (b : Begun z old number) (c : Contents)
    (I : Invariant (growth_of z (begun_area z old)) (view_of z (begun_area z old) c)) where
  abbrev G : Growth
  G = growth_of z (begun_area z old)

  -- ---- what begin left, and what the calls make of it

  changed : (w j : ℕ) → w < kept z → j < rows z
      → xor_blocks z.b (row z (begun_area z old) w j) (delta_of z j (λ t. seen z (begun_area z old) (source w t))) ≡ changed_row z old w j
  unfolding changed_row
  changed w j l m = ap₂ (xor_blocks z.b) (row_left z old number b w j l) (start_delta z old number b w j l)

  -- ---- kept stripes

  data_held : (w d : ℕ) → w < kept z → d < z.k → seen z c.area (kept_data w d) ≡ held_by z old c.journal (kept_data w d)
  unfolding cells_for held_by
  data_held w d l m = ap (λ x. x.column w d) I.cells_are ∙ start_column z old number b w d l m

  module _ (w : ℕ) (l : w < kept z) where
    some_rows : 0 < rows z
    some_rows = omega (arith, b.in_ranges.some_rows)

    new_row0_law : new_row0 G w ≡ changed_row z old w 0
    new_row0_law = rw (seen_row z (begun_area z old) w 0 l some_rows) (changed w 0 l some_rows)

    row0_held : seen z c.area (kept_row w 0) ≡ held_by z old c.journal (kept_row w 0)
    unfolding cells_for held_by
    row0_held =
        ap (λ x. x.row0 w) I.cells_are
        ∙ row0_by_marks _ (swapped z w) _ (I.ordered.released_computed w)
        (start_source z old number b w (swap_index z w) l (turn_lt z b.in_ranges w))
        new_row0_law
        (seen_row z (begun_area z old) w 0 l some_rows ∙ row_left z old number b w 0 l)
        ∙ rw (lt-ltb w (kept z) l)

    -- a delta is added to its row
    new_row : (e : ℕ) → e < rows z - 1 → new_target G w e ≡ changed_row z old w (e + 1)
    unfolding payload_from transfer_kind
    new_row e m = rw (lt-ltb e (rows z - 1) m, seen_delta z (begun_area z old) w e l m) (changed w (e + 1) l (omega arith))

    row_held : (e : ℕ) → e < rows z - 1 → seen z c.area (kept_row w (suc e)) ≡ held_by z old c.journal (kept_row w (suc e))
    unfolding cells_for held_by transfers
    row_held e m =
        rw (sym (add-one e))
        (seen_row z c.area w (e + 1) l (omega arith)
        ∙ sym (seen_delta z c.area w e l m)
        ∙ ap (λ x. x.target w e) I.cells_are
        ∙ rw (lt-ltb w (kept z) l, lt-ltb e (transfers z) (omega (arith, b.in_ranges.some_new)))
        (ap₂ (if (is_accepted (record_at c.journal w) e)) (new_row e m)
        (seen_delta z (begun_area z old) w e l m ∙ row_left z old number b w (e + 1) l)))

    -- ---- new nodes

    module _ (t : ℕ) (m : t < z.s) where
      abbrev e : ℕ
      e = rows z - 1 + t

      there : new_target G w e ≡ if (swapped z w && eqb t (swap_index z w)) (changed_row z old w 0) (new_block z old w t)
      there =
          brought z old number b w l t m
          ∙ ap (λ (x : List ℕ). if (swapped z w && eqb t (swap_index z w)) x (new_block z old w t)) new_row0_law

      new_held : seen z c.area (new_cell w t) ≡ held_by z old c.journal (new_cell w t)
      unfolding cells_for held_by transfers
      new_held =
          seen_there z c.area (new_cell w t) (source_exists z w t l m)
          ∙ sym (seen_new z c.area w t l m)
          ∙ ap (λ x. x.target w e) I.cells_are
          ∙ rw (lt-ltb w (kept z) l, lt-ltb e (transfers z) (omega (arith, b.in_ranges.some_rows)))
          (ap₂ (if (is_accepted (record_at c.journal w) e)) there
          (seen_new z (begun_area z old) w t l m
          ∙ (begin_cells z b.in_ranges old b.long).new (z.n + t) w (omega arith) (omega arith) l))

      -- ---- dissolved stripes

      source_held : seen z c.area (source w t) ≡ held_by z old c.journal (source w t)
      unfolding cells_for held_by
      source_held =
          ap (λ x. x.source w t) I.cells_are
          ∙ source_by_marks _ _ _ (λ h. I.closed_released h w l) (start_source z old number b w t l m)
          ∙ rw (lt-ltb w (kept z) l)

  dissolved_held : (g j : ℕ) → role_exists z (dissolved_row g j) ≡ true
      → seen z c.area (dissolved_row g j) ≡ held_by z old c.journal (dissolved_row g j)
  unfolding cells_for held_by row
  dissolved_held g j there =
      ap (λ x. x.dissolved_row g j) I.cells_are
      ∙ rw (closed_same z (state_of (header_of c.journal)))
      (ap (if (is_closed (state_of (header_of c.journal))) (zeros z.b))
      (seen_there z (begun_area z old) (dissolved_row g j) there
      ∙ (begin_cells z b.in_ranges old b.long).old (row_node z g j) g (row_node_lt z b.in_ranges g j) (dissolved_below z g j there)))

  -- ---- every role

  seen_held : (a : Role) → role_exists z a ≡ true → seen z c.area a ≡ held_by z old c.journal a
  seen_held (kept_data w d) e = data_held w d (data_kept z w d e) (second_lt (ltb w (kept z)) d z.k e)
  seen_held (kept_row w zero) e = row0_held w (row_kept z w 0 e)
  seen_held (kept_row w (suc j)) e =
      let m = second_lt (ltb w (kept z)) (suc j) (rows z) e in
      row_held w (row_kept z w (suc j) e) j (omega arith)
  seen_held (source w t) e = source_held w (source_kept z w t e) t (source_below z w t e)
  seen_held (dissolved_row g j) e = dissolved_held g j e
  seen_held (new_cell w t) e = new_held w (source_kept z w t e) t (source_below z w t e)

  pub roles_held : (a : Role) → role_exists z a ≡ true → cell z c.area (role_node z a) (role_slot z a) ≡ held_by z old c.journal a
  roles_held a e = sym (seen_there z c.area a e) ∙ seen_held a e
