-- FORMAT §18; document 01, "Runs of calls": when a stripe counts as computed or released and a transfer as accepted or receipted, and what
-- is written for a transfer. Assumes nothing.
use Rattle.std.specs.Prelude.{◌≡◌, false, List, ℕ, ◌<◌}
use Rattle.base.specs.Folds.{indicator}
use Rattle.answer.specs.Answers.{done, is_refused}
use Rattle.layout.specs.declared.Shape.{Shape}
use Rattle.layout.specs.Counts.{kept, transfers}
use Rattle.protocol.specs.Transfers.{Among, times, occurrences}
use Rattle.records.specs.Records.{is_accepted, is_receipted, is_computed, is_released}
use Rattle.journal.specs.Journal.{record_at}
use Rattle.growth.specs.Send.{send, sent_in}
use Rattle.growth.specs.Deliver.{deliver}
use Rattle.history.specs.Contents.{Trace, Contents, wrote_message, wrote_receipt, computed_of, released_of, accepted_of, receipted_of}
use Rattle.history.specs.Completions.{message_for, receipt_for}

-- a stripe is computed or released, and a transfer accepted or receipted, once that call was done, and by exactly one; the journal has
-- the mark from then on
pub record Marks (z : Shape) (journal : List ℕ) (t : Trace) (w : ℕ) : Type 0 where
  pub computed : times w (computed_of t) ≡ indicator (is_computed (record_at journal w))
  pub accepted : (e : ℕ) → e < transfers z → occurrences w e (accepted_of t) ≡ indicator (is_accepted (record_at journal w) e)
  pub receipted : (e : ℕ) → e < transfers z → occurrences w e (receipted_of t) ≡ indicator (is_receipted (record_at journal w) e)
  pub released : times w (released_of t) ≡ indicator (is_released (record_at journal w))

-- whatever is written for a transfer, however often and whenever, is its one message or its one receipt; so "that message" is this one
pub record OneEach (z : Shape) (area : List ℕ) (number : ℕ) (c : Contents) : Type 0 where
  pub messages : (bytes : List ℕ) → Among (wrote_message bytes) c.trace
      → (w : ℕ) × (e : ℕ) × (w < kept z) × (e < transfers z) × (bytes ≡ message_for z area number w e)
  pub receipts : (bytes : List ℕ) → Among (wrote_receipt bytes) c.trace
      → (w : ℕ) × (e : ℕ) × (w < kept z) × (e < transfers z) × (bytes ≡ receipt_for z number w e)
  -- what send of transfer e of w writes, and what deliver of its message then writes
  pub sends : (w e : ℕ) (space : List ℕ) → let o = send z c.area c.journal w e space in
      o.answer ≡ done → sent_in o.space ≡ message_for z area number w e
  pub delivers : (node w e : ℕ) (space : List ℕ) → w < kept z → e < transfers z
      → let o = deliver z c.area c.journal node (message_for z area number w e) space in
      is_refused o.answer ≡ false → o.receipt ≡ receipt_for z number w e
