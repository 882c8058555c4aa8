-- Document 01, "Words and messages": what makes two books the same. Assumes nothing.
use Rattle.std.specs.Prelude.{◌≡◌, true, List, ℕ, ◌<◌, length}
use Rattle.layout.specs.declared.Shape.{Shape}
use Rattle.layout.specs.Counts.{kept, transfers}
use Rattle.records.specs.Records.{is_accepted, is_receipted, is_computed, is_released}
use Rattle.journal.specs.Journal.{header_of, state_of, number_of, journal_length, record_at}
use Rattle.journal.specs.Whole.{whole_ok}

-- a whole journal of the growth of a number
pub record GoodJournal (z : Shape) (number : ℕ) (journal : List ℕ) : Type 0 where
  pub long : length journal ≡ journal_length z
  pub whole : whole_ok z journal ≡ true
  pub growth : number_of (header_of journal) ≡ number

-- stripe w has the same marks, receipts aside: those that its cells depend on
pub record SameStage (z : Shape) (a b : List ℕ) (w : ℕ) : Type 0 where
  pub computed : is_computed (record_at a w) ≡ is_computed (record_at b w)
  pub accepted : (e : ℕ) → e < transfers z → is_accepted (record_at a w) e ≡ is_accepted (record_at b w) e
  pub released : is_released (record_at a w) ≡ is_released (record_at b w)

-- the same state, and in each kept stripe the same marks
pub record SameMarks (z : Shape) (a b : List ℕ) : Type 0 where
  pub state : state_of (header_of a) ≡ state_of (header_of b)
  pub stages : (w : ℕ) → w < kept z → SameStage z a b w
  pub receipted : (w e : ℕ) → w < kept z → e < transfers z → is_receipted (record_at a w) e ≡ is_receipted (record_at b w) e
