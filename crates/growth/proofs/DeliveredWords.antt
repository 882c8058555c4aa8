-- The words of a journal after a deliver: the header counts one more, and the records are those with the transfer's mark set.
-- Assumes nothing.
use mathlib.Core.Path.{◌≡◌, ◌∙◌}
use mathlib.Core.List.{List}
use Prim.Native.Nat.{ℕ, ◌≤◌}
use lib.ListN.{length}
use Rattle.records.specs.Records.{accept}
use Rattle.journal.specs.Journal.{header_of, record_at, put_record}
use Rattle.journal.proofs.PutLaws.{put_length}
use Rattle.journal.proofs.HeaderLaws.{header_length, header_back, header_records}
use Rattle.growth.specs.Deliver.{counted_up, delivered_journal}

module _ (journal : List ℕ) (w e : ℕ) where
  -- the journal with the mark, before the count is written
  abbrev pub marked : List ℕ
  marked = put_record journal w (accept (record_at journal w) e)

  pub delivered_length : length (delivered_journal journal w e) ≡ length journal
  unfolding delivered_journal
  delivered_length = header_length _ _ ∙ put_length journal _ _

  pub delivered_header : 4 ≤ length journal → header_of (delivered_journal journal w e) ≡ counted_up (header_of journal)
  unfolding delivered_journal
  delivered_header l = header_back _ (counted_up (header_of journal)) (rw put_length l)

  pub delivered_records : (v : ℕ) → record_at (delivered_journal journal w e) v ≡ record_at marked v
  unfolding delivered_journal
  delivered_records = header_records marked (counted_up (header_of journal))
