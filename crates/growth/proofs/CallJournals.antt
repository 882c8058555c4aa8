-- What compute, receipt and release write in an open journal: each leaves it open and its marks as they were, and changes no record but
-- its stripe's. Assumes nothing.
use mathlib.Core.Path.{◌≡◌, ap}
use mathlib.Core.Bool.{true}
use mathlib.Core.List.{List}
use Prim.Native.Nat.{ℕ, ◌<◌}
use Rattle.layout.specs.declared.Shape.{Shape}
use Rattle.layout.specs.Ranges.{InRanges}
use Rattle.layout.specs.Counts.{kept, transfers}
use Rattle.records.specs.declared.StripeRecord.{StripeRecord}
use Rattle.records.specs.Records.{is_accepted, is_receipted, receipt, compute, release}
use Rattle.journal.specs.Journal.{header_of, number_of, record_at, put_record}
use Rattle.journal.specs.Whole.{marks}
use Rattle.journal.proofs.PutLaws.{puts_hold}
use Rattle.growth.specs.Compute.{computed_journal}
use Rattle.growth.specs.Receipt.{receipted_journal}
use Rattle.growth.specs.Release.{released_journal}
use Rattle.growth.proofs.WholeParts.{RecordParts}
use Rattle.growth.proofs.RecordSteps.{compute_accepted, receipt_accepted, release_accepted, compute_parts, receipt_parts}
use Rattle.growth.proofs.RecordSteps.{release_parts}
use Rattle.growth.proofs.OpenJournals.{OpenJournal, open_record, put_marks, put_open}

-- the journal after a call at stripe w: open, record w is r, every other is as it was, so many transfers are marked in all, and it is of
-- the same growth
pub record JournalStep (z : Shape) (before : List ℕ) (w : ℕ) (r : StripeRecord) (count : ℕ) (after : List ℕ) : Type 0 where
  pub opens : OpenJournal z after
  pub own : record_at after w ≡ r
  pub other : (v : ℕ) → (v ≡ w → ⊥) → record_at after v ≡ record_at before v
  pub marked : marks z after ≡ count
  pub number : number_of (header_of after) ≡ number_of (header_of before)

module _ (z : Shape) (ok : InRanges z) (journal : List ℕ) (w : ℕ) (o : OpenJournal z journal) (l : w < kept z) where
  -- a record that passes its test and marks the same transfers as accepted
  put_step : (r : StripeRecord) → RecordParts z r → ((e : ℕ) → is_accepted r e ≡ is_accepted (record_at journal w) e)
      → JournalStep z journal w r (marks z journal) (put_record journal w r)
  put_step r p same =
      let c = puts_hold z journal w o.long l r in
      record {
        opens = put_open z journal w r o l p (λ e m. same e);
        own = c.back;
        other = c.other;
        marked = put_marks z journal w r o.long l (λ e m. same e);
        number = ap number_of c.header;
      }

  pub computed_step : JournalStep z journal w (compute (record_at journal w)) (marks z journal) (computed_journal journal w)
  unfolding computed_journal
  computed_step =
      let r = record_at journal w in
      put_step (compute r) (compute_parts z ok r (open_record z journal o w l)) (compute_accepted r)

  -- a transfer that is accepted is receipted
  pub receipted_step : (e : ℕ) → e < transfers z → is_accepted (record_at journal w) e ≡ true
      → JournalStep z journal w (receipt (record_at journal w) e) (marks z journal) (receipted_journal journal w e)
  unfolding receipted_journal
  receipted_step e m a =
      let r = record_at journal w in
      put_step (receipt r e) (receipt_parts z ok r (open_record z journal o w l) e m a) (receipt_accepted r e)

  -- a stripe with every transfer receipted is released
  pub released_step : ((e : ℕ) → e < transfers z → is_receipted (record_at journal w) e ≡ true)
      → JournalStep z journal w (release (record_at journal w)) (marks z journal) (released_journal journal w)
  unfolding released_journal
  released_step h =
      let r = record_at journal w in
      put_step (release r) (release_parts z ok r (open_record z journal o w l) h) (release_accepted r)
