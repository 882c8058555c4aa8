-- A fresh journal passes every test of the whole journal, holds no mark, and status tells it as open with count 0. Assumes nothing.
use mathlib.Core.Path.{◌≡◌, refl, ◌∙◌}
use mathlib.Core.Bool.{Bool, true, false, not, ◌||◌, or-true}
use Prim.Native.Nat.{ℕ, ◌<◌}
use native.Mathlib.Omega.{arith}
use borrow.Author.Tests.{not-true}
use Rattle.base.specs.Tests.{only_if, every}
use Rattle.base.proofs.Tests.{eqb_same, every_at, every_intro}
use Rattle.base.specs.Folds.{sum, indicator, total}
use Rattle.base.proofs.Sums.{sum_same, total_none}
use Rattle.layout.specs.declared.Shape.{Shape}
use Rattle.layout.specs.Ranges.{InRanges}
use Rattle.layout.specs.Counts.{kept, transfers}
use Rattle.layout.proofs.Bounds.{transfers_le}
use Rattle.layout.proofs.RangeLaws.{accepted}
use Rattle.wire.specs.Words.{state_word, growth_word, count_word, accepted_word, progress_word, bit}
use Rattle.records.specs.Records.{is_accepted, is_receipted, is_computed, is_released}
use Rattle.records.specs.Stages.{stage}
use Rattle.records.specs.Conditions.{accepted_names, progress_names, only_named, accepted_ok, progress_ok, record_ok}
use Rattle.journal.specs.States.{open_state, listed_state, is_closed}
use Rattle.journal.specs.Journal.{state_of, number_of, count_of, header_ok, journal_length, record_at}
use Rattle.journal.specs.Fresh.{fresh_header, fresh_record, fresh_journal}
use Rattle.journal.specs.Whole.{marks, whole_ok}
use Rattle.journal.specs.Status.{status, status_refusal}
use Rattle.journal.specs.StatusAnswer.{State}
use Rattle.journal.specs.Claims.{FreshClaims}
use Rattle.journal.proofs.FreshPairs.{fresh_length, fresh_at, fresh_header_law}

-- ---- the tests of a fresh pair

accepted_clear : (e : ℕ) → e < 28 → bit (accepted_word 0) e ≡ false
unfolding every bit accepted_word
accepted_clear e l = not-true (bit (accepted_word 0) e) (every_at 28 (λ i. not (bit (accepted_word 0) i)) refl e l)

sent_clear : (e : ℕ) → e < 28 → bit (progress_word 0 0 0) e ≡ false
unfolding every bit progress_word
sent_clear e l = not-true (bit (progress_word 0 0 0) e) (every_at 28 (λ i. not (bit (progress_word 0 0 0) i)) refl e l)

named_clear : (named : ℕ → Bool) (x : ℕ) → ((e : ℕ) → e < 28 → bit x e ≡ false) → only_named named x ≡ true
unfolding only_named
named_clear named x clear = every_intro 28 (λ e. named e || not (bit x e)) (λ e l. rw (clear e l) (or-true (named e)))

fresh_stage : stage fresh_record ≡ 0
unfolding stage is_released is_computed
fresh_stage = rw (sent_clear 27 (omega arith), sent_clear 26 (omega arith))

module _ (z : Shape) (ok : InRanges z) where
  not_accepted : (e : ℕ) → e < transfers z → is_accepted fresh_record e ≡ false
  unfolding is_accepted
  not_accepted e l = accepted_clear e (omega (arith, transfers_le z ok))

  not_receipted : (e : ℕ) → e < transfers z → is_receipted fresh_record e ≡ false
  unfolding is_receipted
  not_receipted e l = sent_clear e (omega (arith, transfers_le z ok))

  record_ok_law : record_ok z fresh_record ≡ true
  unfolding record_ok accepted_ok progress_ok is_released accepted_word progress_word
  record_ok_law =
      rw (
        named_clear (accepted_names z) (accepted_word 0) accepted_clear,
        named_clear (progress_names z) (progress_word 0 0 0) sent_clear,
        every_intro (transfers z) (λ e. only_if (is_receipted fresh_record e) (is_accepted fresh_record e)) (λ e l. rw (not_receipted e l)),
        every_intro (transfers z) (λ e. only_if (is_accepted fresh_record e) (is_computed fresh_record)) (λ e l. rw (not_accepted e l)),
        sent_clear 27 (omega arith),
      )

  marks_none : (number : ℕ) → marks z (fresh_journal z number) ≡ 0
  unfolding marks total
  marks_none number =
      sum_same (kept z) _ (λ w. sum (transfers z) (λ e. indicator false))
      (λ w l. sum_same (transfers z) _ (λ e. indicator false) (λ e m. rw (fresh_at z number w l, not_accepted e m)))
      ∙ total_none (kept z) (transfers z)

-- ---- the header

module _ (z : Shape) (ok : InRanges z) (number : ℕ) (small : number < 268435456) where
  fresh_state : state_of (fresh_header z number) ≡ open_state
  unfolding state_of state_word
  fresh_state = omega arith

  fresh_number : number_of (fresh_header z number) ≡ number
  unfolding number_of growth_word
  fresh_number = omega arith

  fresh_count : count_of (fresh_header z number) ≡ 0
  unfolding count_of count_word
  fresh_count = refl

  header_ok_law : header_ok z (fresh_header z number) ≡ true
  unfolding header_ok listed_state
  header_ok_law = rw (fresh_state, fresh_number, fresh_count) (simp eqb_same)

  -- ---- the whole

  whole_ok_law : whole_ok z (fresh_journal z number) ≡ true
  unfolding whole_ok is_closed
  whole_ok_law =
      rw (
        fresh_header_law z number,
        header_ok_law,
        every_intro (kept z) (λ w. record_ok z (record_at (fresh_journal z number) w))
            (λ w l. rw (fresh_at z number w l) (record_ok_law z ok)),
        fresh_count,
        marks_none z ok number,
        fresh_state,
      )

  fresh_status : status z (fresh_journal z number) ≡ State open_state 0
  unfolding status status_refusal
  fresh_status =
      rw (
        accepted z ok,
        fresh_length z number,
        eqb_same (journal_length z),
        whole_ok_law,
        fresh_header_law z number,
        fresh_state,
        fresh_count,
      )

  pub fresh_holds : FreshClaims z number
  fresh_holds = record {
    long = fresh_length z number;
    whole = whole_ok_law;
    growth = rw (fresh_header_law z number) fresh_number;
    stages = λ w l. rw (fresh_at z number w l) fresh_stage;
    tells = fresh_status;
  }
