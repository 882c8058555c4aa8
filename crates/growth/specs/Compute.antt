-- FORMAT §13; document 01, "Calls": compute w adds the change to row 0 and sets bit 26. Assumes nothing.
use Rattle.std.specs.Prelude.{List, ◌++◌, ℕ, length}
use Rattle.base.specs.Refusals.{Refusal, first, or_else}
use Rattle.answer.specs.Answers.{answer_for, on_done}
use Rattle.area.specs.Area.{xor_blocks}
use Rattle.layout.specs.declared.Shape.{Shape}
use Rattle.layout.specs.Ranges.{shape_refusal}
use Rattle.layout.specs.Nodes.{row_node}
use Rattle.records.specs.Records as Records
use Rattle.journal.specs.declared.headers.JournalHeader.{JournalHeader}
use Rattle.journal.specs.Journal.{header_of, record_at, put_record}
use Rattle.growth.specs.Cells.{put_cell, row, new_block, delta_of}
use Rattle.growth.specs.Shared.{Outcome, store_refusals, kept_refusals}

-- ---- the answer, from the lengths, the header and the touched word, kind 11 of w

abbrev pub compute_refusals : Shape → (area_bytes journalWords : ℕ) → JournalHeader → (word : ℕ) → ℕ → List Refusal
compute_refusals z area_bytes journalWords h word w = store_refusals z area_bytes journalWords ++ kept_refusals z h word w

unfoldable pub compute_refusal : Shape → (area_bytes journalWords : ℕ) → JournalHeader → (word : ℕ) → ℕ → ℕ
compute_refusal z area_bytes journalWords h word w = or_else (shape_refusal z) (first (compute_refusals z area_bytes journalWords h word w))

-- ---- the area and the journal

-- row 0 of w with its delta added
unfoldable pub computed_area : Shape → List ℕ → ℕ → List ℕ
computed_area z area w = put_cell z area (row_node z w 0) w (xor_blocks z.b (row z area w 0) (delta_of z 0 (new_block z area w)))

unfoldable pub computed_journal : List ℕ → ℕ → List ℕ
computed_journal journal w = put_record journal w (Records.compute (record_at journal w))

unfoldable pub compute : Shape → List ℕ → List ℕ → ℕ → Outcome
compute z area journal w =
    let word = (record_at journal w).progress in
    let a = answer_for (compute_refusal z (length area) (length journal) (header_of journal) word w) (Records.computed_in word) in
    record { answer = a; area = on_done a (computed_area z area w) area; journal = on_done a (computed_journal journal w) journal }
