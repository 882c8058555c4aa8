-- What the pass over a good journal finds. Assumes nothing.
use Rattle.std.specs.Prelude.{◌≡◌, List, ℕ}
use Rattle.base.specs.Tests.{every}
use Rattle.layout.specs.declared.Shape.{Shape}
use Rattle.layout.specs.Counts.{kept}
use Rattle.records.specs.Records.{is_released}
use Rattle.journal.specs.declared.whole.Book.{Book}
use Rattle.journal.specs.Journal.{header_of, state_of, count_of, record_at}
use Rattle.journal.specs.StateNumbers.{state_number}

-- the header's state and count, and whether all stripes are released
pub record Found (z : Shape) (journal : List ℕ) (book : Book) : Type 0 where
  pub state : state_number book.state ≡ state_of (header_of journal)
  pub count : book.count ≡ count_of (header_of journal)
  pub released : book.released ≡ every (kept z) (λ w. is_released (record_at journal w))
