-- Where the state is closed, the area is the closed one. Assumes nothing.
use mathlib.Core.Path.{◌≡◌, ◌∙◌}
use mathlib.Core.Bool.{true}
use mathlib.Core.List.{List}
use Prim.Native.Nat.{ℕ, zero, suc, ◌+◌, ◌≤◌, ◌<◌}
use native.Mathlib.Omega.{arith}
use Rattle.area.specs.Area.{zeros}
use Rattle.layout.specs.declared.Shape.{Shape}
use Rattle.layout.specs.Ranges.{InRanges}
use Rattle.layout.specs.Counts.{kept, stripes}
use Rattle.layout.specs.Addresses.{node_slots}
use Rattle.layout.specs.Roles.{Role, kept_data, kept_row, source, dissolved_row, new_cell, role_exists, role_slot, role_at}
use Rattle.layout.proofs.AddressLaws.{slots_old}
use Rattle.layout.proofs.RoleLaws.{cell_role}
use Rattle.records.specs.Records.{is_released}
use Rattle.journal.specs.States.{is_closed}
use Rattle.journal.specs.Journal.{header_of, state_of, record_at}
use Rattle.growth.specs.Cells.{cell}
use Rattle.growth.proofs.WholeParts.{whole_parts}
use Rattle.growth.proofs.NewStripes.{block_there}
use Rattle.growth.proofs.ClosedOnly.{closed_only}
use Rattle.history.proofs.RoleNames.{data_kept, row_kept, source_kept}
use Rattle.stages.specs.Cells.{held_by}
use Rattle.stages.specs.Claims.{AnyPoint, OnceClosed}
use Rattle.stages.proofs.ReleasedStripes.{ended}

module _ (z : Shape) (old : List ℕ) (number : ℕ) (area journal : List ℕ) (p : AnyPoint z old number area journal)
    (closed : is_closed (state_of (header_of journal)) ≡ true) where
  abbrev ok : InRanges z
  ok = p.begun.in_ranges

  all_released : (w : ℕ) → w < kept z → is_released (record_at journal w) ≡ true
  all_released = (whole_parts z journal p.journal_good.whole).closed_released closed

  -- in slots from P on there are first places of new blocks and rows of dissolved stripes
  held_zero : (g : ℕ) → kept z ≤ g → (r : Role) → role_exists z r ≡ true → role_slot z r ≡ g → held_by z old journal r ≡ zeros z.b
  unfolding held_by
  held_zero g a (kept_data u d) e s = absurd (omega (arith, data_kept z u d e))
  held_zero g a (kept_row u zero) e s = absurd (omega (arith, row_kept z u 0 e))
  held_zero g a (kept_row u (suc j)) e s = absurd (omega (arith, row_kept z u (suc j) e))
  held_zero g a (source u t) e s = rw (all_released u (source_kept z u t e))
  held_zero g a (dissolved_row u j) e s = rw closed
  held_zero g a (new_cell u t) e s = absurd (omega (arith, source_kept z u t e))

  cell_zero : (v g : ℕ) → v < z.n → kept z ≤ g → g < stripes z → cell z area v g ≡ zeros z.b
  cell_zero v g m a h =
      let inside : v < z.n + z.s = omega arith in
      let there : g < node_slots z v = rw (slots_old z v m) h in
      let r = cell_role z ok v g inside there in
      p.cells v g inside there ∙ held_zero g a (role_at z v g) r.there r.slot

pub once_closed : (z : Shape) (old : List ℕ) (number : ℕ) (area journal : List ℕ) → AnyPoint z old number area journal
    → OnceClosed z old area journal
once_closed z old number area journal p closed = let ok = p.begun.in_ranges in
    closed_only z ok old area (record {
      long = p.area_long;
      stripe = λ w e l m.
          block_there z ok old area w l (ended z old number area journal p w l (all_released z old number area journal p closed w l)) e m;
      others = cell_zero z old number area journal p closed;
    })
