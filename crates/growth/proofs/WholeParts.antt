-- What the tests of a stripe's record and of the whole journal say, fact by fact, and that the facts are all of it. Assumes nothing.
use mathlib.Core.Path.{◌≡◌}
use mathlib.Core.Bool.{Bool, true, false}
use mathlib.Core.List.{List, [], ◌∷◌}
use Prim.Native.Nat.{ℕ, ◌<◌}
use lib.Dec.{eqb}
use borrow.Author.Tests.{eqb-true, eq-eqb}
use Rattle.base.specs.Tests.{only_if, every}
use Rattle.base.proofs.Tests.{only_if_law, if_only, every_at, every_intro, all_true, all_pass}
use Rattle.layout.specs.declared.Shape.{Shape}
use Rattle.layout.specs.Counts.{kept, transfers}
use Rattle.records.specs.declared.StripeRecord.{StripeRecord}
use Rattle.records.specs.Records.{is_accepted, is_receipted, is_computed, is_released}
use Rattle.records.specs.Conditions.{accepted_ok, progress_ok, record_ok}
use Rattle.journal.specs.States.{open_state, counts_as_open, is_closed}
use Rattle.journal.specs.Journal.{header_of, state_of, count_of, header_ok, record_at}
use Rattle.journal.specs.Whole.{marks, whole_ok}

-- ---- a stripe's record

pub record RecordParts (z : Shape) (r : StripeRecord) : Type 0 where
  pub accepted_word_law : accepted_ok z r.accepted ≡ true
  pub progress_word_law : progress_ok z r.progress ≡ true
  pub receipted_accepted : (e : ℕ) → e < transfers z → is_receipted r e ≡ true → is_accepted r e ≡ true
  pub accepted_computed : (e : ℕ) → e < transfers z → is_accepted r e ≡ true → is_computed r ≡ true
  pub released_receipted : is_released r ≡ true → (e : ℕ) → e < transfers z → is_receipted r e ≡ true

module _ (z : Shape) (r : StripeRecord) where
  abbrev record_tests : List Bool
  record_tests =
      accepted_ok z r.accepted
      ∷ progress_ok z r.progress
      ∷ every (transfers z) (λ e. only_if (is_receipted r e) (is_accepted r e))
      ∷ every (transfers z) (λ e. only_if (is_accepted r e) (is_computed r))
      ∷ only_if (is_released r) (every (transfers z) (is_receipted r))
      ∷ []

  pub record_parts : record_ok z r ≡ true → RecordParts z r
  unfolding record_ok
  record_parts h =
      let p = all_true record_tests h in
      record {
        accepted_word_law = p.0;
        progress_word_law = p.1.0;
        receipted_accepted = λ e l. if_only _ _ (every_at (transfers z) _ p.1.1.0 e l);
        accepted_computed = λ e l. if_only _ _ (every_at (transfers z) _ p.1.1.1.0 e l);
        released_receipted = λ q. every_at (transfers z) (is_receipted r) (if_only _ _ p.1.1.1.1.0 q);
      }

  pub parts_record : RecordParts z r → record_ok z r ≡ true
  unfolding record_ok
  parts_record p =
      let n = transfers z in
      let accepted = every_intro n (λ e. only_if (is_receipted r e) (is_accepted r e)) (λ e l. only_if_law _ _ (p.receipted_accepted e l))
      in
      let computed = every_intro n (λ e. only_if (is_accepted r e) (is_computed r)) (λ e l. only_if_law _ _ (p.accepted_computed e l)) in
      let receipted = only_if_law (is_released r) _ (λ q. every_intro n (is_receipted r) (p.released_receipted q)) in
      all_pass record_tests (p.accepted_word_law, (p.progress_word_law, (accepted, (computed, (receipted, tt)))))

-- ---- the whole journal

pub record WholeParts (z : Shape) (journal : List ℕ) : Type 0 where
  pub header : header_ok z (header_of journal) ≡ true
  pub records : (w : ℕ) → w < kept z → RecordParts z (record_at journal w)
  pub counted : count_of (header_of journal) ≡ marks z journal
  pub closed_released : is_closed (state_of (header_of journal)) ≡ true → (w : ℕ) → w < kept z → is_released (record_at journal w) ≡ true

module _ (z : Shape) (journal : List ℕ) where
  abbrev whole_tests : List Bool
  whole_tests =
      header_ok z (header_of journal)
      ∷ every (kept z) (λ w. record_ok z (record_at journal w))
      ∷ eqb (count_of (header_of journal)) (marks z journal)
      ∷ only_if (is_closed (state_of (header_of journal))) (every (kept z) (λ w. is_released (record_at journal w)))
      ∷ []

  pub whole_parts : whole_ok z journal ≡ true → WholeParts z journal
  unfolding whole_ok
  whole_parts h =
      let p = all_true whole_tests h in
      record {
        header = p.0;
        records = λ w l. record_parts z (record_at journal w) (every_at (kept z) _ p.1.0 w l);
        counted = eqb-true _ _ p.1.1.0;
        closed_released = λ q. every_at (kept z) _ (if_only _ _ p.1.1.1.0 q);
      }

  pub parts_whole : WholeParts z journal → whole_ok z journal ≡ true
  unfolding whole_ok
  parts_whole p =
      let test : ℕ → Bool = λ w. record_ok z (record_at journal w) in
      let records = every_intro (kept z) test (λ w l. parts_record z (record_at journal w) (p.records w l)) in
      let counted = eq-eqb (count_of (header_of journal)) (marks z journal) p.counted in
      let isOut : ℕ → Bool = λ w. is_released (record_at journal w) in
      let released = only_if_law (is_closed (state_of (header_of journal))) _ (λ q. every_intro (kept z) isOut (p.closed_released q)) in
      all_pass whole_tests (p.header, (records, (counted, (released, tt))))

-- a state in which the calls act is not the closed one
pub open_unclosed : (state : ℕ) → counts_as_open state ≡ true → is_closed state ≡ false
unfolding counts_as_open is_closed
open_unclosed state h = rw (eqb-true state open_state h)
