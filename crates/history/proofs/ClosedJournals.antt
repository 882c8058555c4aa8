-- The journal that close writes: of the same length, growth, count and records, closed, and passing the test of the whole journal.
-- Assumes nothing.
use mathlib.Core.Path.{◌≡◌, refl, ap, ◌∙◌}
use mathlib.Core.Bool.{true}
use mathlib.Core.List.{List, [], ◌∷◌}
use Prim.Native.Nat.{ℕ, ◌<◌}
use native.Mathlib.Omega.{arith}
use lib.Dec.{eqb}
use lib.ListN.{length}
use Rattle.base.proofs.Tests.{all_true, eqb_same}
use Rattle.layout.specs.declared.Shape.{Shape}
use Rattle.layout.specs.Ranges.{InRanges}
use Rattle.layout.specs.Counts.{kept}
use Rattle.wire.specs.Words.{state_word, size_word, growth_word, count_word}
use Rattle.records.specs.Records.{is_released}
use Rattle.journal.specs.declared.headers.JournalHeader.{JournalHeader}
use Rattle.journal.specs.States.{closed_state, listed_state}
use Rattle.journal.specs.Journal.{header_of, put_header, state_of, number_of, count_of, header_ok, journal_length, record_at}
use Rattle.journal.specs.Whole.{whole_ok}
use Rattle.journal.specs.Claims.{HeaderClaims}
use Rattle.journal.proofs.JournalHolds.{journal_holds}
use Rattle.growth.specs.Close.{closed_header}
use Rattle.growth.proofs.WholeParts.{parts_whole}
use Rattle.growth.proofs.OpenJournals.{OpenJournal, open_header, open_record, open_counted, marks_same}

-- ---- the header

module _ (z : Shape) (ok : InRanges z) (h : JournalHeader) where
  closed_state_law : state_of (closed_header z h) ≡ closed_state
  unfolding state_of closed_header state_word
  closed_state_law = omega arith

  closed_number : number_of (closed_header z h) ≡ number_of h
  unfolding number_of closed_header
  closed_number = refl

  closed_count : count_of (closed_header z h) ≡ count_of h
  unfolding count_of closed_header
  closed_count = refl

  closed_ok : header_ok z h ≡ true → header_ok z (closed_header z h) ≡ true
  unfolding header_ok closed_header listed_state
  closed_ok e =
      let p = all_true (listed_state (state_of h) ∷ eqb h.state (state_word (state_of h) z) ∷ eqb h.size (size_word z)
      ∷ eqb h.growth (growth_word (number_of h)) ∷ eqb h.count (count_word (count_of h)) ∷ []) e in
      rw (closed_state_law, closed_number, closed_count, eqb_same (state_word closed_state z), p.1.1.0, p.1.1.1.0, p.1.1.1.1.0)

-- ---- the journal

abbrev pub closed_journal : Shape → List ℕ → List ℕ
closed_journal z journal = put_header journal (closed_header z (header_of journal))

module _ (z : Shape) (ok : InRanges z) (journal : List ℕ) (o : OpenJournal z journal) where
  claims : HeaderClaims journal (closed_header z (header_of journal))
  claims = (journal_holds z ok).headers journal (closed_header z (header_of journal)) o.long

  pub closed_long : length (closed_journal z journal) ≡ journal_length z
  closed_long = claims.long ∙ o.long

  pub closed_records : (w : ℕ) → record_at (closed_journal z journal) w ≡ record_at journal w
  closed_records = claims.records

  pub closed_state_is : state_of (header_of (closed_journal z journal)) ≡ closed_state
  closed_state_is = ap state_of claims.back ∙ closed_state_law z ok (header_of journal)

  pub closed_number_is : number_of (header_of (closed_journal z journal)) ≡ number_of (header_of journal)
  closed_number_is = ap number_of claims.back ∙ closed_number z ok (header_of journal)

  pub closed_count_is : count_of (header_of (closed_journal z journal)) ≡ count_of (header_of journal)
  closed_count_is = ap count_of claims.back ∙ closed_count z ok (header_of journal)

  -- only a journal with every stripe released is closed
  pub closed_whole : ((w : ℕ) → w < kept z → is_released (record_at journal w) ≡ true) → whole_ok z (closed_journal z journal) ≡ true
  closed_whole h = parts_whole z (closed_journal z journal) (record {
    header = rw claims.back (closed_ok z ok (header_of journal) (open_header z journal o));
    records = λ w l. rw (closed_records w) (open_record z journal o w l);
    counted = closed_count_is ∙ open_counted z journal o
        ∙ marks_same z journal (closed_journal z journal) (λ w e l m. rw (closed_records w));
    closed_released = λ q w l. rw (closed_records w) (h w l);
  })
