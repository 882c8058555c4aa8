-- FORMAT §18; document 01, "Calls" and "Runs of calls": the stores that a growth may start from, and what its history starts with. Assumes
-- nothing.
use Rattle.std.specs.Prelude.{◌≡◌, List, [], ℕ, ◌^◌, ◌<◌, length}
use Rattle.answer.specs.Answers.{done}
use Rattle.layout.specs.declared.Shape.{Shape}
use Rattle.layout.specs.Ranges.{rows, InRanges}
use Rattle.layout.specs.Counts.{stripes}
use Rattle.layout.specs.Addresses.{area_length}
use Rattle.journal.specs.Journal.{journal_length}
use Rattle.journal.specs.Fresh.{fresh_journal}
use Rattle.growth.specs.Cells.{row, parity_of}
use Rattle.growth.specs.Begin.{begun_area, begin}
use Rattle.history.specs.Contents.{Contents}

-- a growth of this number may start from this area, whatever else begin asks for: each parity row of each stripe is its columns' row
pub record Begun (z : Shape) (area : List ℕ) (number : ℕ) : Type 0 where
  pub in_ranges : InRanges z
  pub long : length area ≡ area_length z
  pub number_small : number < 2 ^ 28
  pub parity : (g j : ℕ) → g < stripes z → j < rows z → row z area g j ≡ parity_of z area g j

-- what a history starts with: the area with new nodes zeroed, a fresh journal, and nothing written
unfoldable pub begun_contents : Shape → List ℕ → ℕ → Contents
begun_contents z area number = record { area = begun_area z area; journal = fresh_journal z number; trace = [] }

-- begin is done exactly on such stores with a journal of exact length, and leaves exactly that
pub record Begins (z : Shape) (area journal : List ℕ) (number : ℕ) : Type 0 where
  pub accepts : Begun z area number → length journal ≡ journal_length z → (begin z area journal number).answer ≡ done
  pub accepted : (begin z area journal number).answer ≡ done → Begun z area number × (length journal ≡ journal_length z)
  pub leaves : (begin z area journal number).answer ≡ done → let o = begin z area journal number in
      (o.area ≡ (begun_contents z area number).area) × (o.journal ≡ (begun_contents z area number).journal)
