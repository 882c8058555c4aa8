-- FORMAT §11; document 01, "Words and messages": the book's first four words, kinds 7, 8, 9 and 12, and its pairs. Assumes nothing.
use Rattle.std.specs.Prelude.{Bool, List, [], ◌∷◌, ℕ, ◌+◌, ◌*◌, eqb, get_or, set}
use Rattle.base.specs.Tests.{all}
use Rattle.layout.specs.declared.Shape.{Shape}
use Rattle.layout.specs.Counts.{kept}
use Rattle.wire.specs.Words.{state_word, size_word, growth_word, count_word, field_at, rest_of}
use Rattle.records.specs.declared.StripeRecord.{StripeRecord}
use Rattle.journal.specs.declared.headers.JournalHeader.{JournalHeader}
use Rattle.journal.specs.States.{listed_state}

-- the book is words 7, 8, 9, 12, then a pair for each kept stripe
unfoldable pub journal_length : Shape → ℕ
journal_length z = 4 + 2 * kept z

-- ---- the first four words

unfoldable pub header_of : List ℕ → JournalHeader
header_of journal = record {
  state = get_or journal 0 0;
  size = get_or journal 1 0;
  growth = get_or journal 2 0;
  count = get_or journal 3 0;
}

unfoldable pub put_header : List ℕ → JournalHeader → List ℕ
put_header journal h = set (set (set (set journal 0 h.state) 1 h.size) 2 h.growth) 3 h.count

-- the state, the growth number and the count that the words hold
unfoldable pub state_of : JournalHeader → ℕ
state_of h = field_at 24 4 h.state

unfoldable pub number_of : JournalHeader → ℕ
number_of h = rest_of h.growth

unfoldable pub count_of : JournalHeader → ℕ
count_of h = rest_of h.count

-- no wrong kind, unlisted state, unnamed bit, other shape or B
unfoldable pub header_ok : Shape → JournalHeader → Bool
header_ok z h =
    all
    (listed_state (state_of h) ∷
    eqb h.state (state_word (state_of h) z) ∷
    eqb h.size (size_word z) ∷
    eqb h.growth (growth_word (number_of h)) ∷
    eqb h.count (count_word (count_of h)) ∷
    [])

-- ---- the pairs

-- by rising w a pair for each: kind 10, kind 11
unfoldable pub record_at : List ℕ → ℕ → StripeRecord
record_at journal w = record { accepted = get_or journal (4 + 2 * w) 0; progress = get_or journal (5 + 2 * w) 0 }

unfoldable pub put_record : List ℕ → ℕ → StripeRecord → List ℕ
put_record journal w r = set (set journal (4 + 2 * w) r.accepted) (5 + 2 * w) r.progress
