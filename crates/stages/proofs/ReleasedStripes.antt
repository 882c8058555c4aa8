-- A released stripe is as close leaves it, whatever other stripes are. Assumes nothing.
use mathlib.Core.Path.{◌≡◌, sym, subst, ◌∙◌}
use mathlib.Core.Bool.{true, ◌&&◌}
use mathlib.Core.List.{List}
use Prim.Native.Nat.{ℕ, suc, ◌+◌, ◌-◌, ◌<◌}
use native.Mathlib.Numerals.{add-one}
use native.Mathlib.Omega.{arith}
use lib.Dec.{eqb, ltb}
use borrow.Author.Tests.{lt-ltb}
use Rattle.base.specs.Tests.{if}
use Rattle.base.proofs.Tests.{and_both}
use Rattle.layout.specs.declared.Shape.{Shape}
use Rattle.layout.specs.Ranges.{rows, InRanges}
use Rattle.layout.specs.Counts.{kept, stripes, transfers}
use Rattle.layout.specs.Nodes.{row_node}
use Rattle.layout.specs.Sources.{source_node, source_slot}
use Rattle.layout.specs.Closed.{swapped, swap_index}
use Rattle.layout.specs.Roles.{kept_data, kept_row, source, new_cell}
use Rattle.layout.proofs.SourceLaws.{taken, source_node_lt}
use Rattle.layout.proofs.ClosedLaws.{block_at, new_node_block}
use Rattle.records.specs.declared.StripeRecord.{StripeRecord}
use Rattle.records.specs.Records.{is_accepted, is_computed, is_released}
use Rattle.journal.specs.Journal.{record_at}
use Rattle.growth.specs.Cells.{cell, new_block}
use Rattle.growth.specs.ClosedArea.{new_stripe_row, closed_area}
use Rattle.growth.proofs.WholeParts.{RecordParts, whole_parts}
use Rattle.growth.proofs.FreshRows.{fresh_row}
use Rattle.growth.proofs.NewStripes.{Ended, block_there, rows_fresh}
use Rattle.growth.proofs.ClosedCells.{closed_cells}
use Rattle.history.proofs.RoleNames.{row_exists, source_exists}
use Rattle.stages.specs.Cells.{changed_row, held_by}
use Rattle.stages.specs.Claims.{AnyPoint, ReleasedStripe}

module _ (z : Shape) (old : List ℕ) (number : ℕ) (area journal : List ℕ) (p : AnyPoint z old number area journal)
    (w : ℕ) (l : w < kept z) (out : is_released (record_at journal w) ≡ true) where
  abbrev ok : InRanges z
  ok = p.begun.in_ranges

  abbrev marks : StripeRecord
  marks = record_at journal w

  -- ---- its marks are all set

  parts : RecordParts z marks
  parts = (whole_parts z journal p.journal_good.whole).records w l

  accepted : (e : ℕ) → e < transfers z → is_accepted marks e ≡ true
  accepted e m = parts.receipted_accepted e m (parts.released_receipted out e m)

  computed : is_computed marks ≡ true
  unfolding transfers
  computed = let some : 0 < transfers z = omega (arith, ok.some_new, ok.some_rows) in parts.accepted_computed 0 some (accepted 0 some)

  -- ---- its rows with their deltas are the fresh ones

  changed_fresh : (j : ℕ) → j < rows z → changed_row z old w j ≡ new_stripe_row z old w j
  unfolding changed_row stripes
  changed_fresh j m = rw (p.begun.parity w j (omega arith) m) (sym (fresh_row z ok old w l j))

  -- ---- so its cells hold the blocks of the new stripe

  some_rows : 0 < rows z
  some_rows = omega (arith, ok.some_rows)

  -- in row 0's place
  at_row0 : cell z area (row_node z w 0) w ≡ if (swapped z w) (new_block z old w (swap_index z w)) (new_stripe_row z old w 0)
  unfolding held_by
  at_row0 = p.roles (kept_row w 0) (row_exists z w 0 l some_rows) ∙ rw (out, computed, changed_fresh 0 some_rows)

  at_row : (e : ℕ) → suc e < rows z → cell z area (row_node z w (suc e)) w ≡ new_stripe_row z old w (suc e)
  unfolding held_by transfers
  at_row e m = p.roles (kept_row w (suc e)) (row_exists z w (suc e) l m)
      ∙ rw (accepted e (omega (arith, ok.some_new)), changed_fresh (suc e) m)

  -- on node n + t
  at_new : (t : ℕ) → t < z.s
      → cell z area (z.n + t) w ≡ if (swapped z w && eqb t (swap_index z w)) (new_stripe_row z old w 0) (new_block z old w t)
  unfolding held_by transfers
  at_new t m = p.roles (new_cell w t) (source_exists z w t l m)
      ∙ rw (accepted (rows z - 1 + t) (omega (arith, ok.some_rows)), changed_fresh 0 some_rows)

  pub ended : Ended z old area w
  unfolding held_by
  ended = record {
    columns = λ d m. p.roles (kept_data w d) (and_both (ltb w (kept z)) (ltb d z.k) (lt-ltb w (kept z) l) (lt-ltb d z.k m));
    row0 = at_row0;
    later_rows = λ e m. rw (add-one e) (at_row e (omega arith));
    new_nodes = at_new;
  }

  -- ---- the claims

  -- every node has one of the n + s blocks
  slot_closed : (v : ℕ) → v < z.n + z.s → cell z area v w ≡ cell z (closed_area z old) v w
  slot_closed v m =
      let block = new_node_block z ok w v m in
      subst (λ (u : ℕ). cell z area u w ≡ cell z (closed_area z old) u w) block.1
      (block_there z ok old area w l ended (block_at z v w) block.0 ∙ sym ((closed_cells z ok old).stripe w (block_at z v w) l block.0))

  sources_closed : (t : ℕ) → t < z.s → new_block z area w t ≡ new_block z (closed_area z old) w t
  unfolding held_by new_block
  sources_closed t m =
      let from = taken z ok w t l m in
      p.roles (source w t) (source_exists z w t l m)
      ∙ rw out (sym ((closed_cells z ok old).others (source_node z w) (source_slot z w t) (source_node_lt z ok w) from.from from.under))

  pub released : ReleasedStripe z old area w
  released = record { as_closed = record { slot = slot_closed; sources = sources_closed }; parity = rows_fresh z ok old area w l ended }
