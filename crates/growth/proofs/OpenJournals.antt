-- A journal in which the calls act: of the shape's length, passing the test of the whole journal, and open. One whose record of a
-- stripe is replaced by another that passes its test and has the same marks is again such a journal. Assumes nothing.
use mathlib.Core.Path.{◌≡◌, refl, sym, ap, ◌∙◌}
use mathlib.Core.Bool.{true}
use mathlib.Core.List.{List}
use Prim.Native.Nat.{ℕ, ◌<◌}
use native.Mathlib.Decide.{ℕ_discrete}
use lib.ListN.{length}
use Rattle.base.specs.Folds.{indicator, total}
use Rattle.base.proofs.Sums.{sum_same}
use Rattle.base.proofs.Tests.{clash}
use Rattle.layout.specs.declared.Shape.{Shape}
use Rattle.layout.specs.Counts.{kept, transfers}
use Rattle.records.specs.declared.StripeRecord.{StripeRecord}
use Rattle.records.specs.Records.{is_accepted}
use Rattle.journal.specs.States.{counts_as_open}
use Rattle.journal.specs.Journal.{header_of, state_of, count_of, header_ok, journal_length, record_at, put_record}
use Rattle.journal.specs.Whole.{marks, whole_ok}
use Rattle.journal.proofs.PutLaws.{puts_hold}
use Rattle.growth.proofs.WholeParts.{RecordParts, whole_parts, parts_whole, open_unclosed}

pub record OpenJournal (z : Shape) (journal : List ℕ) : Type 0 where
  pub long : length journal ≡ journal_length z
  pub whole : whole_ok z journal ≡ true
  pub opened : counts_as_open (state_of (header_of journal)) ≡ true

module _ (z : Shape) where
  pub open_header : (journal : List ℕ) → OpenJournal z journal → header_ok z (header_of journal) ≡ true
  open_header journal o = (whole_parts z journal o.whole).header

  pub open_record : (journal : List ℕ) → OpenJournal z journal → (w : ℕ) → w < kept z → RecordParts z (record_at journal w)
  open_record journal o = (whole_parts z journal o.whole).records

  pub open_counted : (journal : List ℕ) → OpenJournal z journal → count_of (header_of journal) ≡ marks z journal
  open_counted journal o = (whole_parts z journal o.whole).counted

  -- an open journal asks nothing of releases, so these are all
  pub open_journal : (journal : List ℕ) → length journal ≡ journal_length z → counts_as_open (state_of (header_of journal)) ≡ true
      → header_ok z (header_of journal) ≡ true → ((w : ℕ) → w < kept z → RecordParts z (record_at journal w))
      → count_of (header_of journal) ≡ marks z journal → OpenJournal z journal
  open_journal journal long opened header records counted = record {
    long = long;
    whole = parts_whole z journal (record {
      header = header;
      records = records;
      counted = counted;
      closed_released = λ q. absurd (clash q (open_unclosed (state_of (header_of journal)) opened));
    });
    opened = opened;
  }

  -- the marks are counted by what each record tells of its transfers
  pub marks_same : (a b : List ℕ)
      → ((w e : ℕ) → w < kept z → e < transfers z → is_accepted (record_at a w) e ≡ is_accepted (record_at b w) e) → marks z a ≡ marks z b
  unfolding marks total
  marks_same a b h = sum_same (kept z) _ _ (λ w l. sum_same (transfers z) _ _ (λ e m. ap indicator (h w e l m)))

  -- ---- one record replaced

  module _ (journal : List ℕ) (w : ℕ) (r : StripeRecord) (long : length journal ≡ journal_length z) (l : w < kept z) where
    -- what holds of the new record and of each old one holds of each
    pub put_each : (P : ℕ → StripeRecord → Type 0) → P w r → ((v : ℕ) → v < kept z → P v (record_at journal v))
        → (v : ℕ) → v < kept z → P v (record_at (put_record journal w r) v)
    put_each P new old v lv = go (ℕ_discrete v w)
      where
        go : Dec (v ≡ w) → P v (record_at (put_record journal w r) v)
        go (yes q) = rw (q, (puts_hold z journal w long l r).back) new
        go (no d) = rw ((puts_hold z journal w long l r).other v d) (old v lv)

    pub put_marks : ((e : ℕ) → e < transfers z → is_accepted r e ≡ is_accepted (record_at journal w) e)
        → marks z (put_record journal w r) ≡ marks z journal
    put_marks same = marks_same (put_record journal w r) journal
        (λ v e lv le. put_each (λ u q. is_accepted q e ≡ is_accepted (record_at journal u) e) (same e le) (λ u lu. refl) v lv)

  pub put_open : (journal : List ℕ) (w : ℕ) (r : StripeRecord) → OpenJournal z journal → w < kept z → RecordParts z r
      → ((e : ℕ) → e < transfers z → is_accepted r e ≡ is_accepted (record_at journal w) e) → OpenJournal z (put_record journal w r)
  put_open journal w r o l p same =
      let c = puts_hold z journal w o.long l r in
      open_journal (put_record journal w r) (c.long ∙ o.long)
      (rw c.header o.opened)
      (rw c.header (open_header journal o))
      (put_each journal w r o.long l (λ v q. RecordParts z q) p (open_record journal o))
      (ap count_of c.header ∙ open_counted journal o ∙ sym (put_marks journal w r o.long l same))
