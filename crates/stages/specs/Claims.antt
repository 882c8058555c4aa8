-- What is claimed of every cell at any point of a growth. Assumes nothing.
use Rattle.std.specs.Prelude.{◌≡◌, true, false, List, ℕ, ◌+◌, ◌<◌, length}
use Rattle.layout.specs.declared.Shape.{Shape}
use Rattle.layout.specs.Ranges.{rows, InRanges}
use Rattle.layout.specs.Counts.{kept, stripes}
use Rattle.layout.specs.Addresses.{node_slots, area_length}
use Rattle.layout.specs.Columns.{standing_node, standing_slot}
use Rattle.layout.specs.Roles.{Role, role_exists, role_node, role_slot}
use Rattle.records.specs.Records.{is_computed, is_released}
use Rattle.journal.specs.States.{is_closed}
use Rattle.journal.specs.Journal.{header_of, state_of, record_at}
use Rattle.growth.specs.Cells.{cell, column, row, parity_of, new_block}
use Rattle.growth.specs.Begin.{begun_area}
use Rattle.growth.specs.Read.{released_by}
use Rattle.growth.specs.ClosedArea.{closed_area}
use Rattle.history.specs.Begun.{Begun}
use Rattle.history.specs.Calls.{Call}
use Rattle.history.specs.Grown.{FreshParity}
use Rattle.history.specs.Claims.{now, IsHistory}
use Rattle.stages.specs.Cells.{held_by, cell_now}
use Rattle.stages.specs.Journals.{GoodJournal, SameStage, SameMarks}

-- an area and a journal at some point of a growth of this number, which began with the area `old`
pub record AnyPoint (z : Shape) (old : List ℕ) (number : ℕ) (area journal : List ℕ) : Type 0 where
  pub begun : Begun z old number
  pub area_long : length area ≡ area_length z
  pub journal_good : GoodJournal z number journal
  -- every cell: slot g of node v; and the cell of every role
  pub cells : (v g : ℕ) → v < z.n + z.s → g < node_slots z v → cell z area v g ≡ cell_now z old journal v g
  pub roles : (a : Role) → role_exists z a ≡ true → cell z area (role_node z a) (role_slot z a) ≡ held_by z old journal a

-- old block (g, d) stands, with its bytes, where read looks for it
abbrev pub Stands : Shape → (old area journal : List ℕ) (g d : ℕ) → Type 0
Stands z old area journal g d =
    let released = released_by journal in
    cell z area (standing_node z released g d) (standing_slot z released g d) ≡ column z old g d

-- ---- two areas, cell by cell

-- all of them: every slot of every node
abbrev pub AllCellsSame : Shape → (a b : List ℕ) → Type 0
AllCellsSame z a b = (v g : ℕ) → v < z.n + z.s → g < node_slots z v → cell z a v g ≡ cell z b v g

-- those of kept stripe w: its slot on every node, and the first places of its new blocks
pub record SameStripe (z : Shape) (a b : List ℕ) (w : ℕ) : Type 0 where
  pub slot : (v : ℕ) → v < z.n + z.s → cell z a v w ≡ cell z b v w
  pub sources : (t : ℕ) → t < z.s → new_block z a w t ≡ new_block z b w t

-- ---- a stripe by its stage, whatever the others' is

-- as begin left it, and its parity is that of its k columns
pub record FreshStripe (z : Shape) (old area : List ℕ) (w : ℕ) : Type 0 where
  pub as_begun : SameStripe z area (begun_area z old) w
  pub parity : (j : ℕ) → j < rows z → row z area w j ≡ parity_of z area w j

-- as close leaves it, and its parity is fresh encoding over the k + s columns that the area has
pub record ReleasedStripe (z : Shape) (old area : List ℕ) (w : ℕ) : Type 0 where
  pub as_closed : SameStripe z area (closed_area z old) w
  pub parity : (j : ℕ) → j < rows z → FreshParity z area w j

-- at a point of the growth, of each kept stripe
pub record EachStripe (z : Shape) (old area journal : List ℕ) (w : ℕ) : Type 0 where
  pub uncomputed : is_computed (record_at journal w) ≡ false → FreshStripe z old area w
  pub released : is_released (record_at journal w) ≡ true → ReleasedStripe z old area w

-- once the state is closed, the area is the closed one
abbrev pub OnceClosed : Shape → (old area journal : List ℕ) → Type 0
OnceClosed z old area journal = is_closed (state_of (header_of journal)) ≡ true → area ≡ closed_area z old

pub record StagesHold : Type 0 where
  -- after every history
  pub every_history : (z : Shape) (area : List ℕ) (number : ℕ) → Begun z area number
      → (history : List Call) → IsHistory z area number history
      → AnyPoint z area number (now z area number history).area (now z area number history).journal
  -- stripe by stripe, before close too
  pub each_stripe : (z : Shape) (old : List ℕ) (number : ℕ) (area journal : List ℕ) → AnyPoint z old number area journal
      → (w : ℕ) → w < kept z → EachStripe z old area journal w
  pub once_closed : (z : Shape) (old : List ℕ) (number : ℕ) (area journal : List ℕ) → AnyPoint z old number area journal
      → OnceClosed z old area journal
  -- every old block is there
  pub old_blocks : (z : Shape) (old : List ℕ) (number : ℕ) (area journal : List ℕ) → AnyPoint z old number area journal
      → (g d : ℕ) → g < stripes z → d < z.k → Stands z old area journal g d
  -- an area of exact length is its cells, and a whole journal its number, its state and its marks
  pub area_by_cells : (z : Shape) → InRanges z → (a b : List ℕ) → length a ≡ area_length z → length b ≡ area_length z
      → AllCellsSame z a b → a ≡ b
  pub journal_by_marks : (z : Shape) (number : ℕ) (a b : List ℕ) → GoodJournal z number a → GoodJournal z number b → SameMarks z a b → a ≡ b
  -- at two points of one growth, whatever led there: a stripe with the same marks has the same cells; and with the same state and marks
  -- area and journal are the same
  pub by_stage_alone : (z : Shape) (old : List ℕ) (number : ℕ) (x y a b : List ℕ) → AnyPoint z old number x a → AnyPoint z old number y b
      → (w : ℕ) → w < kept z → SameStage z a b w → SameStripe z x y w
  pub by_marks_alone : (z : Shape) (old : List ℕ) (number : ℕ) (x y a b : List ℕ) → AnyPoint z old number x a → AnyPoint z old number y b
      → SameMarks z a b → (x ≡ y) × (a ≡ b)
