-- What deliver writes in an open journal: a transfer that was not accepted is one mark more and one more in the count, and the journal
-- stays open. Assumes nothing.
use mathlib.Core.Path.{◌≡◌, refl, sym, ap, ◌∙◌}
use mathlib.Core.Bool.{true, false}
use mathlib.Core.List.{List, [], ◌∷◌}
use Prim.Native.Nat.{ℕ, ◌+◌, ◌<◌}
use native.Mathlib.Omega.{arith}
use lib.Dec.{eqb}
use Rattle.base.proofs.Sums.{total_room}
use Rattle.base.proofs.Tests.{all_true, eqb_same}
use Rattle.layout.specs.declared.Shape.{Shape}
use Rattle.layout.specs.Ranges.{InRanges}
use Rattle.layout.specs.Counts.{kept, transfers, all_transfers}
use Rattle.layout.proofs.Bounds.{all_transfers_le}
use Rattle.wire.specs.Words.{state_word, size_word, growth_word, count_word}
use Rattle.wire.proofs.WordLaws.{count_back}
use Rattle.records.specs.declared.StripeRecord.{StripeRecord}
use Rattle.records.specs.Records.{is_accepted, is_computed, accept}
use Rattle.journal.specs.declared.headers.JournalHeader.{JournalHeader}
use Rattle.journal.specs.States.{listed_state}
use Rattle.journal.specs.Journal.{header_of, state_of, number_of, count_of, header_ok, journal_length, record_at}
use Rattle.journal.specs.Whole.{marks}
use Rattle.journal.specs.Claims.{PutClaims}
use Rattle.journal.proofs.PutLaws.{puts_hold, accepts_hold}
use Rattle.growth.specs.Deliver.{counted_up, delivered_journal}
use Rattle.growth.proofs.DeliveredWords.{marked, delivered_length, delivered_header, delivered_records}
use Rattle.growth.proofs.WholeParts.{RecordParts}
use Rattle.growth.proofs.RecordSteps.{accept_parts}
use Rattle.growth.proofs.OpenJournals.{OpenJournal, open_header, open_record, open_counted, open_journal, marks_same, put_each}
use Rattle.growth.proofs.CallJournals.{JournalStep}

-- ---- the header with one more in its count

pub counted_state : (h : JournalHeader) → state_of (counted_up h) ≡ state_of h
unfolding state_of counted_up
counted_state h = refl

pub counted_number : (h : JournalHeader) → number_of (counted_up h) ≡ number_of h
unfolding number_of counted_up
counted_number h = refl

pub counted_one : (h : JournalHeader) → count_of h + 1 < 268435456 → count_of (counted_up h) ≡ count_of h + 1
unfolding count_of counted_up
counted_one h l = (count_back (count_of h + 1) l).rest

pub counted_ok : (z : Shape) (h : JournalHeader) → count_of h + 1 < 268435456 → header_ok z h ≡ true → header_ok z (counted_up h) ≡ true
unfolding header_ok counted_up
counted_ok z h l e =
    let p = all_true (listed_state (state_of h) ∷ eqb h.state (state_word (state_of h) z) ∷ eqb h.size (size_word z)
    ∷ eqb h.growth (growth_word (number_of h)) ∷ eqb h.count (count_word (count_of h)) ∷ []) e in
    rw (
      counted_state h,
      counted_number h,
      counted_one h l,
      p.0,
      p.1.0,
      p.1.1.0,
      p.1.1.1.0,
      eqb_same (count_word (count_of h + 1)),
    )

-- where a mark is missing, the count is below its total
pub count_room : (z : Shape) (journal : List ℕ) (w e : ℕ) → count_of (header_of journal) ≡ marks z journal → w < kept z → e < transfers z
    → is_accepted (record_at journal w) e ≡ false → count_of (header_of journal) < all_transfers z
unfolding all_transfers marks
count_room z journal w e counted l m h =
    rw counted (total_room (kept z) (transfers z) (λ v. is_accepted (record_at journal v)) w e l m h)

-- ---- the journal

module _ (z : Shape) (ok : InRanges z) (journal : List ℕ) (w e : ℕ) (o : OpenJournal z journal) (l : w < kept z) (m : e < transfers z) where
  put : (r : StripeRecord) → PutClaims journal w r
  put r = puts_hold z journal w o.long l r

  header : header_of (delivered_journal journal w e) ≡ counted_up (header_of journal)
  unfolding journal_length
  header = delivered_header journal w e (omega (arith, o.long))

  -- of a computed stripe a transfer that was not accepted
  pub delivered_step : is_computed (record_at journal w) ≡ true → is_accepted (record_at journal w) e ≡ false
      → JournalStep z journal w (accept (record_at journal w) e) (marks z journal + 1) (delivered_journal journal w e)
  delivered_step c h = record {
    opens = open_journal z (delivered_journal journal w e) (delivered_length journal w e ∙ o.long)
        (rw (header, counted_state) o.opened)
        (rw header (counted_ok z (header_of journal) small (open_header z journal o)))
        (λ v k. rw (delivered_records journal w e v)
        (put_each z journal w (accept (record_at journal w) e) o.long l (λ u q. RecordParts z q)
        (accept_parts z ok (record_at journal w) (open_record z journal o w l) e m c) (open_record z journal o) v k))
        (rw (header, counted_one (header_of journal) small, open_counted z journal o) (sym total));
    own = delivered_records journal w e w ∙ (put _).back;
    other = λ v d. delivered_records journal w e v ∙ (put _).other v d;
    marked = total;
    number = ap number_of header ∙ counted_number (header_of journal);
  }
    where
      small : count_of (header_of journal) + 1 < 268435456
      small = omega (arith, all_transfers_le z ok, count_room z journal w e (open_counted z journal o) l m h)

      total : marks z (delivered_journal journal w e) ≡ marks z journal + 1
      total =
          marks_same z (delivered_journal journal w e) (marked journal w e)
          (λ v f lv lf. ap (λ q. is_accepted q f) (delivered_records journal w e v))
          ∙ accepts_hold z journal w o.long l e m h
