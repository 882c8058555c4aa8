-- Each mark of a stripe was made by one done call: a call that sets a mark stands once more in the trace, and every call keeps the rest.
-- Assumes nothing.
use mathlib.Core.Path.{◌≡◌, sym, ap, ◌∙◌}
use mathlib.Core.Bool.{Bool, true, false}
use mathlib.Core.List.{List, [], ◌∷◌}
use mathlib.Core.Logic.{◌≢◌}
use Prim.Native.Nat.{ℕ, suc, ◌^◌, ◌<◌}
use native.Mathlib.Decide.{ℕ_discrete}
use Rattle.base.specs.Tests.{same2}
use Rattle.base.specs.Folds.{indicator}
use Rattle.base.proofs.Tests.{same_refl, same2_refl, not_same, not_same2_left, not_same2_right}
use Rattle.layout.specs.declared.Shape.{Shape}
use Rattle.layout.specs.Ranges.{InRanges}
use Rattle.layout.specs.Counts.{kept, transfers}
use Rattle.records.specs.declared.StripeRecord.{StripeRecord}
use Rattle.records.specs.Records.{is_accepted, is_receipted, is_computed, is_released}
use Rattle.records.proofs.StepLaws.{compute_released, release_computed, steps_hold}
use Rattle.journal.specs.Journal.{header_of, put_header, record_at}
use Rattle.journal.specs.Fresh.{fresh_journal}
use Rattle.growth.specs.Compute.{computed_journal}
use Rattle.growth.specs.Deliver.{delivered_journal}
use Rattle.growth.specs.Receipt.{receipted_journal}
use Rattle.growth.specs.Release.{released_journal}
use Rattle.growth.specs.Close.{closed_header}
use Rattle.growth.proofs.RecordSteps.{compute_receipted, accept_computed, accept_receipted, accept_released, receipt_other}
use Rattle.growth.proofs.RecordSteps.{receipt_computed, receipt_released, release_receipted}
use Rattle.growth.proofs.OpenJournals.{OpenJournal}
use Rattle.growth.proofs.CallJournals.{JournalStep, computed_step, receipted_step, released_step}
use Rattle.growth.proofs.DeliveredJournals.{delivered_step}
use Rattle.protocol.specs.Transfers.{times, Transfer, occurrences}
use Rattle.history.specs.Contents.{Trace, computed_of, released_of, receipted_of, wrote_receipt, computed, released, accepted}
use Rattle.history.specs.Contents.{receipted}
use Rattle.history.proofs.Growths.{MarkedOnce}
use Rattle.history.proofs.StepMarks.{each, flag_kept, mark_kept}
use Rattle.history.proofs.ClosedJournals.{closed_records}
use Rattle.history.proofs.FreshJournals.{fresh_computed, fresh_released, fresh_receipted}
use Rattle.history.proofs.SeenMarks.{below_26}

-- ---- one more in a list

times_own : (w : ℕ) (list : List ℕ) → times w (w ∷ list) ≡ suc (times w list)
unfolding times
times_own w list = rw (same_refl w)

times_other : (v w : ℕ) (list : List ℕ) → v ≢ w → times v (w ∷ list) ≡ times v list
unfolding times
times_other v w list d = rw (not_same v w d)

abbrev transfer : ℕ → ℕ → Transfer
transfer w e = record { stripe = w; item = e }

occurrences_own : (w e : ℕ) (list : List Transfer) → occurrences w e (transfer w e ∷ list) ≡ suc (occurrences w e list)
unfolding occurrences
occurrences_own w e list = rw (same2_refl w e)

occurrences_other : (v i w e : ℕ) (list : List Transfer) → same2 v w i e ≡ false
    → occurrences v i (transfer w e ∷ list) ≡ occurrences v i list
unfolding occurrences
occurrences_other v i w e list d = rw d

-- ---- a call that sets one mark

module _ (z : Shape) {journal : List ℕ} {w : ℕ} {r : StripeRecord} {count : ℕ} {after : List ℕ} (s : JournalStep z journal w r count after)
    (l : w < kept z) where
  flag_once : (f : StripeRecord → Bool) (list : List ℕ) → ((v : ℕ) → v < kept z → times v list ≡ indicator (f (record_at journal v)))
      → f (record_at journal w) ≡ false → f r ≡ true → (v : ℕ) → v < kept z → times v (w ∷ list) ≡ indicator (f (record_at after v))
  flag_once f list all missing set v = each z s (λ u q. u < kept z → times u (w ∷ list) ≡ indicator (f q))
      (λ k. rw (times_own w list, all w l, missing, set))
      (λ u d k. times_other u w list d ∙ all u k)
      v

  mark_once : (f : StripeRecord → ℕ → Bool) (e : ℕ) (list : List Transfer) → e < transfers z
      → ((v : ℕ) → v < kept z → (i : ℕ) → i < transfers z → occurrences v i list ≡ indicator (f (record_at journal v) i))
      → f (record_at journal w) e ≡ false → f r e ≡ true → ((i : ℕ) → e ≢ i → f r i ≡ f (record_at journal w) i)
      → (v : ℕ) → v < kept z → (i : ℕ) → i < transfers z → occurrences v i (transfer w e ∷ list) ≡ indicator (f (record_at after v) i)
  mark_once f e list m all missing set other v lv i n = each z s
      (λ u q. u < kept z → occurrences u i (transfer w e ∷ list) ≡ indicator (f q i))
      (λ k. own (ℕ_discrete e i))
      (λ u d k. occurrences_other u i w e list (not_same2_left u w i e d) ∙ all u k i n)
      v lv
    where
      own : Dec (e ≡ i) → occurrences w i (transfer w e ∷ list) ≡ indicator (f r i)
      own (yes q) = rw (← q, occurrences_own w e list, all w l e m, missing, set)
      own (no d) = occurrences_other w i w e list (not_same2_right w w i e (λ q. d (sym q))) ∙ all w l i n ∙ ap indicator (sym (other i d))

-- ---- marks that a call leaves were made as often as before

module _ (z : Shape) {journal : List ℕ} {w : ℕ} {r : StripeRecord} {count : ℕ} {after : List ℕ}
    (s : JournalStep z journal w r count after) where
  flag_as : (f : StripeRecord → Bool) → f r ≡ f (record_at journal w)
      → (n v : ℕ) → n ≡ indicator (f (record_at journal v)) → n ≡ indicator (f (record_at after v))
  flag_as f h n v e = rw (flag_kept z s f h v) e

  mark_as : (f : StripeRecord → ℕ → Bool) → ((i : ℕ) → i < transfers z → f r i ≡ f (record_at journal w) i)
      → (n v i : ℕ) → i < transfers z → n ≡ indicator (f (record_at journal v) i) → n ≡ indicator (f (record_at after v) i)
  mark_as f h n v i m e = rw (mark_kept z s f h v i m) e

-- ---- the calls

module _ (z : Shape) (ok : InRanges z) (journal : List ℕ) (o : OpenJournal z journal) (t : Trace)
    (all : (v : ℕ) → v < kept z → MarkedOnce z journal t v) where
  pub computed_once : (w : ℕ) → w < kept z → is_computed (record_at journal w) ≡ false
      → (v : ℕ) → v < kept z → MarkedOnce z (computed_journal journal w) (computed w ∷ t) v
  computed_once w l c v k =
      let r = record_at journal w in
      let s = computed_step z ok journal w o l in
      record {
        computed = flag_once z s l is_computed (computed_of t) (λ u j. (all u j).computed) c (steps_hold z ok r).computes v k;
        receipted = λ i m. mark_as z s is_receipted (λ e n. compute_receipted r e (below_26 z ok e n)) _ v i m ((all v k).receipted i m);
        released = flag_as z s is_released (compute_released r) _ v (all v k).released;
      }

  -- of accepted transfers nothing is said here
  pub accepted_once : (w e : ℕ) → w < kept z → e < transfers z → is_computed (record_at journal w) ≡ true
      → is_accepted (record_at journal w) e ≡ false → (i : Transfer) (bytes : List ℕ)
      → (v : ℕ) → v < kept z → MarkedOnce z (delivered_journal journal w e) (accepted i ∷ wrote_receipt bytes ∷ t) v
  accepted_once w e l m c a i bytes v k =
      let r = record_at journal w in
      let s = delivered_step z ok journal w e o l m c a in
      record {
        computed = flag_as z s is_computed (accept_computed r e) _ v (all v k).computed;
        receipted = λ f n. mark_as z s is_receipted (λ g q. accept_receipted r e g) _ v f n ((all v k).receipted f n);
        released = flag_as z s is_released (accept_released r e) _ v (all v k).released;
      }

  pub receipted_once : (w e : ℕ) → w < kept z → e < transfers z → is_accepted (record_at journal w) e ≡ true
      → is_receipted (record_at journal w) e ≡ false → (v : ℕ) → v < kept z
      → MarkedOnce z (receipted_journal journal w e) (receipted (record { stripe = w; item = e }) ∷ t) v
  receipted_once w e l m a c v k =
      let r = record_at journal w in
      let s = receipted_step z ok journal w o l e m a in
      record {
        computed = flag_as z s is_computed (receipt_computed r e (below_26 z ok e m)) _ v (all v k).computed;
        receipted = mark_once z s l is_receipted e (receipted_of t) m (λ u j. (all u j).receipted) c
            ((steps_hold z ok r).receipts e) (receipt_other r e) v k;
        released = flag_as z s is_released (receipt_released r e (below_26 z ok e m)) _ v (all v k).released;
      }

  pub released_once : (w : ℕ) → w < kept z → ((e : ℕ) → e < transfers z → is_receipted (record_at journal w) e ≡ true)
      → is_released (record_at journal w) ≡ false → (v : ℕ) → v < kept z → MarkedOnce z (released_journal journal w) (released w ∷ t) v
  released_once w l h c v k =
      let r = record_at journal w in
      let s = released_step z ok journal w o l h in
      record {
        computed = flag_as z s is_computed (release_computed r) _ v (all v k).computed;
        receipted = λ i m. mark_as z s is_receipted (λ e n. release_receipted r e (below_26 z ok e n)) _ v i m ((all v k).receipted i m);
        released = flag_once z s l is_released (released_of t) (λ u j. (all u j).released) c (steps_hold z ok r).releases v k;
      }

  -- close sets no mark of a stripe
  pub closed_once : (v : ℕ) → v < kept z → MarkedOnce z (put_header journal (closed_header z (header_of journal))) t v
  closed_once v k = record {
    computed = rw (closed_records z ok journal o v) (all v k).computed;
    receipted = λ e m. rw (closed_records z ok journal o v) ((all v k).receipted e m);
    released = rw (closed_records z ok journal o v) (all v k).released;
  }

-- begin leaves no mark, and nothing was done
pub fresh_once : (z : Shape) → InRanges z → (number : ℕ) → number < 2 ^ 28 → (v : ℕ) → v < kept z
    → MarkedOnce z (fresh_journal z number) [] v
unfolding times occurrences
fresh_once z ok number small v k = record {
  computed = rw (fresh_computed z ok number small v k);
  receipted = λ e m. rw (fresh_receipted z ok number small v k e m);
  released = rw (fresh_released z ok number small v k);
}
