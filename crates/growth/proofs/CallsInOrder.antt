-- What compute, send and release leave in an open journal where nothing refuses them, whether they are done or answer already:
-- the stripe's record with the step's mark set. Assumes nothing.
use mathlib.Core.Path.{◌≡◌, refl, sym}
use mathlib.Core.Bool.{Bool, true, false}
use mathlib.Core.List.{List}
use Prim.Native.Nat.{ℕ, ◌<◌}
use lib.ListN.{length}
use Rattle.answer.specs.Answers.{answer_for, on_done}
use Rattle.answer.proofs.Answers.{answered_cases}
use Rattle.layout.specs.declared.Shape.{Shape}
use Rattle.layout.specs.Ranges.{InRanges}
use Rattle.layout.specs.Counts.{kept, transfers}
use Rattle.layout.specs.Addresses.{area_length}
use Rattle.wire.specs.Headers as Wire
use Rattle.records.specs.declared.StripeRecord.{StripeRecord}
use Rattle.records.specs.Records as Records
use Rattle.records.specs.Records.{is_receipted, is_computed, is_released, computed_in, released_in}
use Rattle.journal.specs.Journal.{header_of, number_of, record_at}
use Rattle.journal.specs.Whole.{marks}
use Rattle.growth.specs.Compute.{computed_journal, compute}
use Rattle.growth.specs.Send.{message_length, payload, send}
use Rattle.growth.specs.Release.{released_journal, release}
use Rattle.growth.proofs.RecordSteps.{compute_again, release_again}
use Rattle.growth.proofs.OpenJournals.{OpenJournal}
use Rattle.growth.proofs.CallJournals.{JournalStep, computed_step, released_step}
use Rattle.growth.proofs.NotRefused.{compute_unrefused, send_unrefused, release_unrefused}

-- a journal that a call leaves as it was, since the record has the step's mark already
pub unchanged : (z : Shape) (journal : List ℕ) (w : ℕ) (r : StripeRecord) → OpenJournal z journal → r ≡ record_at journal w
    → JournalStep z journal w r (marks z journal) journal
unchanged z journal w r o e = record { opens = o; own = sym e; other = λ v d. refl; marked = refl; number = refl }

-- the journal of a call that nothing refuses: written where it is done, and as it was where its mark is set
pub written : (Q : List ℕ → Type 0) (n : ℕ) (marked : Bool) (new old : List ℕ) → n ≡ 0 → (marked ≡ true → Q old) → (marked ≡ false → Q new)
    → Q (on_done (answer_for n marked) new old)
written Q n marked new old e p q =
    answered_cases (λ a. Q (on_done a new old)) n marked (λ h. absurd (h e)) (λ z h. p h) (λ z h. q h)

module _ (z : Shape) (ok : InRanges z) (journal : List ℕ) (o : OpenJournal z journal) where
  module _ (area : List ℕ) (long : length area ≡ area_length z) where
    module _ (w : ℕ) (l : w < kept z) where
      -- ---- compute

      pub compute_leaves :
          JournalStep z journal w (Records.compute (record_at journal w)) (marks z journal) (compute z area journal w).journal
      unfolding compute is_computed
      compute_leaves = written (λ j. JournalStep z journal w (Records.compute (record_at journal w)) (marks z journal) j)
          _ (computed_in (record_at journal w).progress) (computed_journal journal w) journal
          (compute_unrefused z ok journal o area long w l)
          (λ h. unchanged z journal w _ o (compute_again (record_at journal w) h))
          (λ h. computed_step z ok journal w o l)

      -- ---- send, of a stripe that is computed and not released

      module _ (e : ℕ) (space : List ℕ) (m : e < transfers z) (room : length space ≡ message_length z)
          (c : is_computed (record_at journal w) ≡ true) (r : is_released (record_at journal w) ≡ false) where
        pub send_writes : (send z area journal w e space).space ≡ Wire.message z w e (number_of (header_of journal)) (payload z area w e)
        unfolding send
        send_writes = rw (send_unrefused z ok journal o area long w l e space m room c r)

      -- ---- release

      -- of a stripe that is computed, with every transfer receipted
      module _ (c : is_computed (record_at journal w) ≡ true)
          (h : (e : ℕ) → e < transfers z → is_receipted (record_at journal w) e ≡ true) where
        pub release_leaves :
            JournalStep z journal w (Records.release (record_at journal w)) (marks z journal) (release z area journal w).journal
        unfolding release is_released
        release_leaves = written (λ j. JournalStep z journal w (Records.release (record_at journal w)) (marks z journal) j)
            _ (released_in (record_at journal w).progress) (released_journal journal w) journal
            (release_unrefused z ok journal o area long w l c h)
            (λ q. unchanged z journal w _ o (release_again (record_at journal w) q))
            (λ q. released_step z ok journal w o l h)
