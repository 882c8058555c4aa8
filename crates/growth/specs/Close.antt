-- FORMAT §13; document 01, "Calls": close zeroes all dissolved cells and sets state 2. Assumes nothing.
use Rattle.std.specs.Prelude.{false, not, List, [], ◌∷◌, ◌++◌, ℕ, length}
use Rattle.base.specs.Tests.{every}
use Rattle.base.specs.Folds.{run}
use Rattle.base.specs.Refusals.{Refusal, refuse, first, or_else}
use Rattle.answer.specs.Answers.{answer_for, on_done}
use Rattle.layout.specs.declared.Shape.{Shape}
use Rattle.layout.specs.Ranges.{shape_refusal}
use Rattle.layout.specs.Counts.{kept, dissolved}
use Rattle.wire.specs.Words.{state_word}
use Rattle.records.specs.Records.{is_released}
use Rattle.journal.specs.declared.headers.JournalHeader.{JournalHeader}
use Rattle.journal.specs.States.{closed_state}
use Rattle.journal.specs.Journal.{header_of, put_header, record_at}
use Rattle.growth.specs.Cells.{zero_cells}
use Rattle.growth.specs.Shared.{Outcome, store_refusals, whole_refusals}

-- ---- the answer

-- 4 the whole book, 13, 8 stripes unreleased
abbrev pub close_refusals : Shape → ℕ → List ℕ → List Refusal
close_refusals z area_bytes journal =
    store_refusals z area_bytes (length journal)
    ++ (whole_refusals z journal ++ (refuse (not (every (kept z) (λ w. is_released (record_at journal w)))) 8 ∷ []))

unfoldable pub close_refusal : Shape → ℕ → List ℕ → ℕ
close_refusal z area_bytes journal = or_else (shape_refusal z) (first (close_refusals z area_bytes journal))

-- ---- the area and the journal

-- the slots from P on of the n old nodes
unfoldable pub cleared_area : Shape → List ℕ → List ℕ
cleared_area z area = run (λ v a. zero_cells z v (kept z) (dissolved z) a) 0 z.n area

unfoldable pub closed_header : Shape → JournalHeader → JournalHeader
closed_header z h = record { state = state_word closed_state z; size = h.size; growth = h.growth; count = h.count }

unfoldable pub close : Shape → List ℕ → List ℕ → Outcome
close z area journal =
    let a = answer_for (close_refusal z (length area) journal) false in
    record {
      answer = a;
      area = on_done a (cleared_area z area) area;
      journal = on_done a (put_header journal (closed_header z (header_of journal))) journal;
    }
