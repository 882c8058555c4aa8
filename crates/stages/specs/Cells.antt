-- FORMAT §7; document 01, "Calls": what every cell holds at any point of a growth, from the area `old` that begin accepted and from the
-- marks and the state of the journal alone. Assumes nothing.
use Rattle.std.specs.Prelude.{◌&&◌, List, ℕ, zero, suc, ◌+◌, ◌-◌, eqb}
use Rattle.base.specs.Tests.{if}
use Rattle.area.specs.Area.{zeros, xor_blocks}
use Rattle.layout.specs.declared.Shape.{Shape}
use Rattle.layout.specs.Ranges.{rows}
use Rattle.layout.specs.Closed.{swapped, swap_index}
use Rattle.layout.specs.Roles.{Role, kept_data, kept_row, source, dissolved_row, new_cell, role_at}
use Rattle.records.specs.declared.StripeRecord.{StripeRecord}
use Rattle.records.specs.Records.{is_accepted, is_computed, is_released}
use Rattle.journal.specs.States.{is_closed}
use Rattle.journal.specs.Journal.{header_of, state_of, record_at}
use Rattle.growth.specs.Cells.{column, row, new_block, delta_of}

module _ (z : Shape) (old : List ℕ) where
  -- row j of kept stripe w with its delta
  unfoldable pub changed_row : (w j : ℕ) → List ℕ
  changed_row w j = xor_blocks z.b (row z old w j) (delta_of z j (new_block z old w))

  module _ (journal : List ℕ) where
    abbrev marks_of : ℕ → StripeRecord
    marks_of w = record_at journal w

    unfoldable pub held_by : Role → List ℕ
    -- column d of kept stripe w stays
    held_by (kept_data w d) = column z old w d
    -- compute changes row 0; release of a swapped stripe puts new block y in its place
    held_by (kept_row w zero) =
        if (is_released (marks_of w) && swapped z w) (new_block z old w (swap_index z w))
        (if (is_computed (marks_of w)) (changed_row w 0) (row z old w 0))
    -- transfer e, once accepted, changes row e + 1
    held_by (kept_row w (suc e)) = if (is_accepted (marks_of w) e) (changed_row w (suc e)) (row z old w (suc e))
    -- transfer r - 1 + t, once accepted, brought new block t to node n + t, or row 0 if it is a swapped stripe's y
    held_by (new_cell w t) =
        if (is_accepted (marks_of w) (rows z - 1 + t))
        (if (swapped z w && eqb t (swap_index z w)) (changed_row w 0) (new_block z old w t))
        (zeros z.b)
    -- release zeroes the first places of the new blocks, close the rows of dissolved stripes
    held_by (source w t) = if (is_released (marks_of w)) (zeros z.b) (new_block z old w t)
    held_by (dissolved_row g j) = if (is_closed (state_of (header_of journal))) (zeros z.b) (row z old g j)

    -- slot g of node v
    abbrev pub cell_now : (v g : ℕ) → List ℕ
    cell_now v g = held_by (role_at z v g)
