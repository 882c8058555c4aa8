-- What is claimed of the journal: records and headers read back, one mark more for an acceptance, a fresh journal. Assumes nothing.
use Rattle.std.specs.Prelude.{◌≡◌, true, false, List, ℕ, ◌+◌, ◌<◌, length}
use Rattle.layout.specs.declared.Shape.{Shape}
use Rattle.layout.specs.Counts.{kept, transfers}
use Rattle.records.specs.declared.StripeRecord.{StripeRecord}
use Rattle.records.specs.Records.{is_accepted, accept}
use Rattle.records.specs.Stages.{stage}
use Rattle.journal.specs.declared.headers.JournalHeader.{JournalHeader}
use Rattle.journal.specs.States.{open_state}
use Rattle.journal.specs.Journal.{header_of, put_header, number_of, journal_length, record_at, put_record}
use Rattle.journal.specs.Fresh.{fresh_journal}
use Rattle.journal.specs.Whole.{marks, whole_ok}
use Rattle.journal.specs.Status.{status}
use Rattle.journal.specs.StatusAnswer.{State}

-- a record written to its pair of words
pub record PutClaims (journal : List ℕ) (w : ℕ) (r : StripeRecord) : Type 0 where
  pub long : length (put_record journal w r) ≡ length journal
  pub back : record_at (put_record journal w r) w ≡ r
  pub other : (v : ℕ) → (v ≡ w → ⊥) → record_at (put_record journal w r) v ≡ record_at journal v
  pub header : header_of (put_record journal w r) ≡ header_of journal

-- a header written
pub record HeaderClaims (journal : List ℕ) (h : JournalHeader) : Type 0 where
  pub long : length (put_header journal h) ≡ length journal
  pub back : header_of (put_header journal h) ≡ h
  pub records : (w : ℕ) → record_at (put_header journal h) w ≡ record_at journal w

-- what begin leaves
pub record FreshClaims (z : Shape) (number : ℕ) : Type 0 where
  pub long : length (fresh_journal z number) ≡ journal_length z
  pub whole : whole_ok z (fresh_journal z number) ≡ true
  pub growth : number_of (header_of (fresh_journal z number)) ≡ number
  pub stages : (w : ℕ) → w < kept z → stage (record_at (fresh_journal z number) w) ≡ 0
  pub tells : status z (fresh_journal z number) ≡ State open_state 0

pub record JournalClaims (z : Shape) : Type 0 where
  pub puts : (journal : List ℕ) (w : ℕ) (r : StripeRecord) → length journal ≡ journal_length z → w < kept z → PutClaims journal w r
  pub headers : (journal : List ℕ) (h : JournalHeader) → length journal ≡ journal_length z → HeaderClaims journal h
  -- an acceptance is one mark more
  pub accepts : (journal : List ℕ) (w e : ℕ) → length journal ≡ journal_length z → w < kept z → e < transfers z
      → is_accepted (record_at journal w) e ≡ false
      → marks z (put_record journal w (accept (record_at journal w) e)) ≡ marks z journal + 1
  pub fresh : (number : ℕ) → number < 268435456 → FreshClaims z number
