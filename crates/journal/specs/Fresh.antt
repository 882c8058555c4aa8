-- FORMAT §11; document 01, "Words and messages" and "Calls": the fresh book that begin writes. Assumes nothing.
use Rattle.std.specs.Prelude.{List, [], ◌∷◌, ℕ, zero, suc}
use Rattle.layout.specs.declared.Shape.{Shape}
use Rattle.layout.specs.Counts.{kept}
use Rattle.wire.specs.Words.{state_word, size_word, growth_word, count_word, accepted_word, progress_word}
use Rattle.records.specs.declared.StripeRecord.{StripeRecord}
use Rattle.journal.specs.declared.headers.JournalHeader.{JournalHeader}
use Rattle.journal.specs.States.{open_state}

-- open, and no transfer accepted so far
abbrev pub fresh_header : Shape → ℕ → JournalHeader
fresh_header z number = record { state = state_word open_state z; size = size_word z; growth = growth_word number; count = count_word 0 }

-- nothing accepted; not released, not computed, nothing receipted
abbrev pub fresh_record : StripeRecord
fresh_record = record { accepted = accepted_word 0; progress = progress_word 0 0 0 }

unfoldable pub fresh_pairs : ℕ → List ℕ
fresh_pairs zero = []
fresh_pairs (suc n) = fresh_record.accepted ∷ fresh_record.progress ∷ fresh_pairs n

unfoldable pub fresh_journal : Shape → ℕ → List ℕ
fresh_journal z number =
    let h = fresh_header z number in
    h.state ∷ h.size ∷ h.growth ∷ h.count ∷ fresh_pairs (kept z)
