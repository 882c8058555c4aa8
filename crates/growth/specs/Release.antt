-- FORMAT §13; document 01, "Calls": release w performs the swap's local move, zeroes the dissolved cells that w's new blocks came from,
-- sets bit 27. Assumes nothing.
use Rattle.std.specs.Prelude.{not, List, [], ◌∷◌, ◌++◌, ℕ, length}
use Rattle.base.specs.Tests.{if, every}
use Rattle.base.specs.Folds.{run}
use Rattle.base.specs.Refusals.{Refusal, refuse, first, or_else}
use Rattle.answer.specs.Answers.{answer_for, on_done}
use Rattle.area.specs.Area.{zeros}
use Rattle.layout.specs.declared.Shape.{Shape}
use Rattle.layout.specs.Ranges.{shape_refusal}
use Rattle.layout.specs.Counts.{transfers}
use Rattle.layout.specs.Sources.{source_node, source_slot}
use Rattle.layout.specs.Closed.{swapped, swap_index}
use Rattle.wire.specs.Words.{bit}
use Rattle.records.specs.Records as Records
use Rattle.journal.specs.declared.headers.JournalHeader.{JournalHeader}
use Rattle.journal.specs.Journal.{header_of, record_at, put_record}
use Rattle.growth.specs.Cells.{put_cell, new_block}
use Rattle.growth.specs.Shared.{Outcome, store_refusals, kept_refusals}

-- ---- the answer, from the lengths, the header and the touched word, kind 11 of w

-- 6 not computed, 8 items unreceipted
abbrev pub unfinished : Shape → (word : ℕ) → List Refusal
unfinished z word = refuse (not (Records.computed_in word)) 6 ∷ refuse (not (every (transfers z) (bit word))) 8 ∷ []

abbrev pub release_refusals : Shape → (area_bytes journalWords : ℕ) → JournalHeader → (word : ℕ) → ℕ → List Refusal
release_refusals z area_bytes journalWords h word w =
    store_refusals z area_bytes journalWords ++ (kept_refusals z h word w ++ unfinished z word)

unfoldable pub release_refusal : Shape → (area_bytes journalWords : ℕ) → JournalHeader → (word : ℕ) → ℕ → ℕ
release_refusal z area_bytes journalWords h word w = or_else (shape_refusal z) (first (release_refusals z area_bytes journalWords h word w))

-- ---- the area and the journal

-- swapped: new block y moves on its node into slot w
unfoldable pub moved_area : Shape → List ℕ → ℕ → List ℕ
moved_area z area w = if (swapped z w) (put_cell z area (source_node z w) w (new_block z area w (swap_index z w))) area

-- the first places of the s new blocks of w
unfoldable pub zero_sources : Shape → ℕ → List ℕ → List ℕ
zero_sources z w area = run (λ t a. put_cell z a (source_node z w) (source_slot z w t) (zeros z.b)) 0 z.s area

unfoldable pub released_area : Shape → List ℕ → ℕ → List ℕ
released_area z area w = zero_sources z w (moved_area z area w)

unfoldable pub released_journal : List ℕ → ℕ → List ℕ
released_journal journal w = put_record journal w (Records.release (record_at journal w))

unfoldable pub release : Shape → List ℕ → List ℕ → ℕ → Outcome
release z area journal w =
    let word = (record_at journal w).progress in
    let a = answer_for (release_refusal z (length area) (length journal) (header_of journal) word w) (Records.released_in word) in
    record { answer = a; area = on_done a (released_area z area w) area; journal = on_done a (released_journal journal w) journal }
