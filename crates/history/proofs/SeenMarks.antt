-- What begin and each call write in the journal, seen as marks: a call sets its one mark, and nothing else changes. Assumes nothing.
use mathlib.Core.Path.{◌≡◌, sym, ap, ◌∙◌}
use mathlib.Core.Bool.{true, false}
use mathlib.Core.List.{List}
use mathlib.Core.Logic.{◌≢◌}
use Prim.Native.Nat.{ℕ, ◌+◌, ◌-◌, ◌^◌, ◌<◌}
use native.Mathlib.Omega.{arith}
use Rattle.layout.specs.declared.Shape.{Shape}
use Rattle.layout.specs.Ranges.{InRanges}
use Rattle.layout.specs.Counts.{kept, transfers}
use Rattle.layout.proofs.Bounds.{transfers_le}
use Rattle.records.specs.declared.StripeRecord.{StripeRecord}
use Rattle.records.specs.Records.{is_accepted, is_receipted, is_computed, is_released, accept}
use Rattle.records.proofs.MarkLaws.{set_other}
use Rattle.records.proofs.StepLaws.{compute_released, release_computed, steps_hold}
use Rattle.journal.specs.States.{closed_state, ended_refusal}
use Rattle.journal.specs.Journal.{header_of, put_header, state_of, count_of, record_at}
use Rattle.journal.specs.Fresh.{fresh_journal}
use Rattle.journal.specs.Whole.{marks}
use Rattle.growth.specs.Compute.{computed_journal}
use Rattle.growth.specs.Deliver.{delivered_journal}
use Rattle.growth.specs.Receipt.{receipted_journal}
use Rattle.growth.specs.Release.{released_journal}
use Rattle.growth.specs.Close.{closed_header}
use Rattle.growth.proofs.RecordSteps.{compute_accepted, compute_receipted, accept_computed, accept_receipted, accept_released}
use Rattle.growth.proofs.RecordSteps.{receipt_accepted, receipt_other, receipt_computed, receipt_released, release_accepted}
use Rattle.growth.proofs.RecordSteps.{release_receipted}
use Rattle.growth.proofs.OpenJournals.{OpenJournal, open_counted}
use Rattle.growth.proofs.CallJournals.{JournalStep, computed_step, receipted_step, released_step}
use Rattle.growth.proofs.DeliveredJournals.{delivered_step}
use Rattle.protocol.specs.World as W
use Rattle.history.proofs.Growths.{growth_of, state_seen, journal_of}
use Rattle.history.proofs.StatesSeen.{open_seen, closed_is_closed}
use Rattle.history.proofs.ClosedJournals.{closed_records, closed_state_is, closed_count_is}
use Rattle.history.proofs.FreshJournals.{fresh_open, fresh_count, fresh_computed, fresh_released, fresh_accepted, fresh_receipted}
use Rattle.history.proofs.StepMarks.{flag_none, mark_none, flag_stays, mark_stays, flag_set, mark_set}

-- two journals without bytes that have the same marks, state and count are the same
journal_path : (a b : W.Journal) → ((w : ℕ) → a.computed w ≡ b.computed w) → ((w : ℕ) → a.released w ≡ b.released w)
    → ((w e : ℕ) → a.accepted w e ≡ b.accepted w e) → ((w e : ℕ) → a.receipted w e ≡ b.receipted w e)
    → a.state ≡ b.state → a.count ≡ b.count → a ≡ b
journal_path a b computed released accepted receipted state count = λ x. record {
  computed = λ w. computed w x;
  released = λ w. released w x;
  accepted = λ w e. accepted w e x;
  receipted = λ w e. receipted w e x;
  state = state x;
  count = count x;
}

-- acceptance of one transfer leaves the others
accept_other : (r : StripeRecord) (e f : ℕ) → e ≢ f → is_accepted (accept r e) f ≡ is_accepted r f
unfolding is_accepted accept
accept_other r e f d = set_other r.accepted e f d

-- a journal in which the calls act is seen as opened
journal_open : (z : Shape) (journal : List ℕ) → OpenJournal z journal → state_seen z (state_of (header_of journal)) ≡ W.opened
journal_open z journal o = open_seen z (state_of (header_of journal)) o.opened

-- no transfer has the bit of computed or of released
pub below_26 : (z : Shape) → InRanges z → (e : ℕ) → e < transfers z → e < 26
below_26 z ok e l = omega (arith, transfers_le z ok)

-- a call at a stripe leaves the state, and the count is that of its marks
module _ {z : Shape} {journal : List ℕ} {w : ℕ} {r : StripeRecord} {count : ℕ} {after : List ℕ}
    (s : JournalStep z journal w r count after) where
  state_stays : OpenJournal z journal → state_seen z (state_of (header_of after)) ≡ state_seen z (state_of (header_of journal))
  state_stays o = journal_open z after s.opens ∙ sym (journal_open z journal o)

  count_is : count_of (header_of after) ≡ count
  count_is = open_counted z after s.opens ∙ s.marked

module _ (z : Shape) (ok : InRanges z) (journal : List ℕ) (o : OpenJournal z journal) where
  count_stays : {w : ℕ} {r : StripeRecord} {after : List ℕ} → JournalStep z journal w r (marks z journal) after
      → count_of (header_of after) ≡ count_of (header_of journal)
  count_stays s = count_is s ∙ sym (open_counted z journal o)

  pub computed_seen : (w : ℕ) → w < kept z → journal_of z (computed_journal journal w) ≡ W.set_computed (journal_of z journal) w
  computed_seen w l =
      let r = record_at journal w in
      let s = computed_step z ok journal w o l in
      journal_path _ _
      (flag_set z s l is_computed (steps_hold z ok r).computes)
      (flag_stays z s is_released (compute_released r))
      (mark_stays z s is_accepted (λ i m. compute_accepted r i))
      (mark_stays z s is_receipted (λ i m. compute_receipted r i (below_26 z ok i m)))
      (state_stays s o)
      (count_stays s)

  pub accepted_seen : (w e : ℕ) → w < kept z → e < transfers z → is_computed (record_at journal w) ≡ true
      → is_accepted (record_at journal w) e ≡ false
      → journal_of z (delivered_journal journal w e) ≡ W.set_accepted (journal_of z journal) w e
  accepted_seen w e l m c a =
      let r = record_at journal w in
      let s = delivered_step z ok journal w e o l m c a in
      journal_path _ _
      (flag_stays z s is_computed (accept_computed r e))
      (flag_stays z s is_released (accept_released r e))
      (mark_set z s l is_accepted e m ((steps_hold z ok r).accepts e) (accept_other r e))
      (mark_stays z s is_receipted (λ i n. accept_receipted r e i))
      (state_stays s o)
      (count_is s ∙ ap (λ (n : ℕ). n + 1) (sym (open_counted z journal o)))

  pub receipted_seen : (w e : ℕ) → w < kept z → e < transfers z → is_accepted (record_at journal w) e ≡ true
      → journal_of z (receipted_journal journal w e) ≡ W.set_receipted (journal_of z journal) w e
  receipted_seen w e l m a =
      let r = record_at journal w in
      let s = receipted_step z ok journal w o l e m a in
      journal_path _ _
      (flag_stays z s is_computed (receipt_computed r e (below_26 z ok e m)))
      (flag_stays z s is_released (receipt_released r e (below_26 z ok e m)))
      (mark_stays z s is_accepted (λ i n. receipt_accepted r e i))
      (mark_set z s l is_receipted e m ((steps_hold z ok r).receipts e) (receipt_other r e))
      (state_stays s o)
      (count_stays s)

  pub released_seen : (w : ℕ) → w < kept z → ((e : ℕ) → e < transfers z → is_receipted (record_at journal w) e ≡ true)
      → journal_of z (released_journal journal w) ≡ W.set_released (journal_of z journal) w
  released_seen w l h =
      let r = record_at journal w in
      let s = released_step z ok journal w o l h in
      journal_path _ _
      (flag_stays z s is_computed (release_computed r))
      (flag_set z s l is_released (steps_hold z ok r).releases)
      (mark_stays z s is_accepted (λ i m. release_accepted r i))
      (mark_stays z s is_receipted (λ i m. release_receipted r i (below_26 z ok i m)))
      (state_stays s o)
      (count_stays s)

  -- close only closes
  pub closed_seen_law : journal_of z (put_header journal (closed_header z (header_of journal)))
      ≡ W.set_state (journal_of z journal) (W.ended true (ended_refusal closed_state - 1))
  closed_seen_law = journal_path _ _
      (λ w. rw (closed_records z ok journal o w))
      (λ w. rw (closed_records z ok journal o w))
      (λ w e. rw (closed_records z ok journal o w))
      (λ w e. rw (closed_records z ok journal o w))
      (ap (state_seen z) (closed_state_is z ok journal o) ∙ closed_is_closed z)
      (closed_count_is z ok journal o)

-- what begin writes is the journal of the begun growth
pub fresh_seen : (z : Shape) → InRanges z → (number : ℕ) → number < 2 ^ 28 → (start : List ℕ)
    → journal_of z (fresh_journal z number) ≡ (W.begun_world (growth_of z start)).journal
unfolding W.begun_world
fresh_seen z ok number small start = journal_path _ _
    (λ w. flag_none z w _ (fresh_computed z ok number small w))
    (λ w. flag_none z w _ (fresh_released z ok number small w))
    (λ w e. mark_none z w e _ (λ l. fresh_accepted z ok number small w l e))
    (λ w e. mark_none z w e _ (λ l. fresh_receipted z ok number small w l e))
    (journal_open z (fresh_journal z number) (fresh_open z ok number small))
    (fresh_count z ok number small)
