-- Compute, send, release and close, with the growth's own shape and exact lengths, answer what the growth without bytes answers, and drive
-- is refused where it is. Assumes nothing.
use mathlib.Core.Path.{◌≡◌, refl, ◌∙◌}
use mathlib.Core.Bool.{Bool, true, false, not, ◌&&◌}
use mathlib.Core.List.{List, [], ◌∷◌}
use Prim.Native.Nat.{ℕ, ◌+◌, ◌<◌}
use lib.Dec.{ltb}
use lib.ListN.{length}
use borrow.Author.Tests.{ltb-true, lt-ltb}
use Rattle.base.specs.Tests.{if, below, every}
use Rattle.base.specs.Refusals.{Refusal, refuse, first}
use Rattle.base.proofs.Refusals.{NoneApplies}
use Rattle.base.proofs.Tests.{every_same}
use Rattle.answer.proofs.Answers.{answered_same}
use Rattle.layout.specs.declared.Shape.{Shape}
use Rattle.layout.specs.Ranges.{InRanges}
use Rattle.layout.specs.Counts.{kept, transfers}
use Rattle.layout.specs.Addresses.{area_length}
use Rattle.wire.specs.Words.{bit}
use Rattle.records.specs.Records.{is_receipted, is_computed, is_released, computed_in, released_in}
use Rattle.records.specs.Conditions.{progress_ok}
use Rattle.journal.specs.Journal.{header_of, journal_length, record_at}
use Rattle.journal.specs.Whole.{whole_ok}
use Rattle.protocol.specs.World as World
use Rattle.protocol.specs.Steps as Protocol
use Rattle.growth.specs.Shared.{wrong_length, damaged_header, damaged_word, out_of_range}
use Rattle.growth.specs.Compute.{compute_refusal}
use Rattle.growth.specs.Compute as Compute
use Rattle.growth.specs.Send.{message_length, send_refusal}
use Rattle.growth.specs.Send as Send
use Rattle.growth.specs.Deliver.{receipt_length}
use Rattle.growth.specs.Release.{release_refusal}
use Rattle.growth.specs.Release as Release
use Rattle.growth.specs.Close.{close_refusal}
use Rattle.growth.specs.Close as Close
use Rattle.growth.specs.Drive.{drive_refusal}
use Rattle.growth.proofs.NotRefused.{right_length}
use Rattle.growth.proofs.Allowed.{compute_allowed, release_allowed}
use Rattle.history.specs.Contents.{Contents}
use Rattle.history.specs.Steps.{compute, send, release, close, step_answer}
use Rattle.history.proofs.Growths.{growth_of, view_of, Fit}
use Rattle.history.proofs.FitSeen.{sent_sound}
use Rattle.history.proofs.TestsPassed.{word_passes, within_same, right_area, right_journal, right_header, past_open}

-- a mark beside a range test that passes
within : (x bound : ℕ) (mark : Bool) → x < bound → mark ≡ ltb x bound && mark
within x bound mark l = rw (lt-ltb x bound l)

turned : (t : Bool) (n : ℕ) → if (not t) n 0 ≡ if t 0 n
turned true n = refl
turned false n = refl

module _ (z : Shape) (ok : InRanges z) (start : List ℕ) (number : ℕ) (c : Contents) (f : Fit z number c) where
  -- the number of the first refusal in the growth without bytes
  abbrev seen_refusal : Protocol.Step (List ℕ) → ℕ
  seen_refusal x = first (Protocol.refusals (growth_of z start) (view_of z start c).journal x)

  abbrev sent : ℕ → ℕ
  sent w = (record_at c.journal w).progress

  -- kind 11 of a stripe, where there is one
  right_word : (w : ℕ) → (damaged_word (ltb w (kept z)) (progress_ok z (sent w))).applies ≡ false
  right_word w = word_passes (ltb w (kept z)) _ (λ q. sent_sound z number c f w (ltb-true w (kept z) q))

  -- the tests before the one whether the journal is open that compute and release share
  abbrev stripe_tests : ℕ → List Refusal
  stripe_tests w =
      wrong_length (length c.area) (area_length z)
      ∷ wrong_length (length c.journal) (journal_length z)
      ∷ damaged_header z (header_of c.journal)
      ∷ damaged_word (ltb w (kept z)) (progress_ok z (sent w))
      ∷ []

  stripe_passes : (w : ℕ) → NoneApplies (stripe_tests w)
  stripe_passes w = (right_area z number c f, (right_journal z number c f, (right_header z number c f, (right_word w, tt))))

  -- ---- compute

  compute_number : (w : ℕ) → compute_refusal z (length c.area) (length c.journal) (header_of c.journal) (sent w) w
      ≡ seen_refusal (Protocol.compute w)
  unfolding compute_refusal below
  compute_number w = past_open z number c f ok start (stripe_tests w) (out_of_range w (kept z) ∷ [])
      (refuse (not (below w (kept z))) 5 ∷ [])
      (stripe_passes w) refl

  pub compute_told : (w : ℕ) → step_answer c (compute z w)
      ≡ Protocol.step_answer (growth_of z start) (view_of z start c) (Protocol.compute w)
  unfolding step_answer Protocol.step_answer Compute.compute is_computed
  compute_told w = answered_same _ _ _ _ (compute_number w)
      (λ e. within w (kept z) (computed_in (sent w)) (compute_allowed z _ _ _ _ w e).stripe)

  -- ---- send

  abbrev send_tests : (w e : ℕ) → List Refusal
  send_tests w e =
      out_of_range w (kept z) ∷ out_of_range e (transfers z) ∷ refuse (not (computed_in (sent w))) 6 ∷ refuse (released_in (sent w)) 7 ∷ []

  abbrev send_seen : (w e : ℕ) → List Refusal
  send_seen w e =
      refuse (not (below w (kept z))) 5 ∷ refuse (not (below e (transfers z))) 5
      ∷ refuse (not ((view_of z start c).journal.computed w)) 6 ∷ refuse ((view_of z start c).journal.released w) 7 ∷ []

  send_tests_law : (w e : ℕ) → first (send_tests w e) ≡ first (send_seen w e)
  unfolding below is_computed is_released
  send_tests_law w e = within_same (ltb w (kept z)) 5 _ _ (λ q. rw q)

  send_number : (w e : ℕ) (space : List ℕ) → length space ≡ message_length z
      → send_refusal z (length c.area) (length c.journal) (length space) (header_of c.journal) (sent w) w e
      ≡ seen_refusal (Protocol.send w e)
  unfolding send_refusal
  send_number w e space long =
      past_open z number c f ok start
      (wrong_length (length c.area) (area_length z) ∷ wrong_length (length c.journal) (journal_length z)
      ∷ wrong_length (length space) (message_length z) ∷ damaged_header z (header_of c.journal)
      ∷ damaged_word (ltb w (kept z)) (progress_ok z (sent w)) ∷ [])
      (send_tests w e) (send_seen w e)
      (right_area z number c f, (right_journal z number c f, (right_length _ _ long, (right_header z number c f, (right_word w, tt)))))
      (send_tests_law w e)

  pub send_told : (w e : ℕ) (space : List ℕ) → length space ≡ message_length z
      → step_answer c (send z w e space) ≡ Protocol.step_answer (growth_of z start) (view_of z start c) (Protocol.send w e)
  unfolding step_answer Protocol.step_answer Send.send
  send_told w e space long = answered_same _ _ false false (send_number w e space long) (λ q. refl)

  -- ---- release

  -- the receipts of a stripe in range are the bits of its word
  receipts_seen : (w : ℕ) → w < kept z → every (transfers z) (bit (sent w)) ≡ every (transfers z) ((view_of z start c).journal.receipted w)
  unfolding is_receipted
  receipts_seen w l = every_same (transfers z) _ _ (λ e m. rw (lt-ltb w (kept z) l, lt-ltb e (transfers z) m))

  abbrev release_tests : ℕ → List Refusal
  release_tests w =
      out_of_range w (kept z) ∷ refuse (not (computed_in (sent w))) 6 ∷ refuse (not (every (transfers z) (bit (sent w)))) 8 ∷ []

  abbrev release_seen : ℕ → List Refusal
  release_seen w =
      refuse (not (below w (kept z))) 5 ∷ refuse (not ((view_of z start c).journal.computed w)) 6
      ∷ refuse (not (every (transfers z) ((view_of z start c).journal.receipted w))) 8 ∷ []

  release_tests_law : (w : ℕ) → first (release_tests w) ≡ first (release_seen w)
  unfolding below is_computed
  release_tests_law w = within_same (ltb w (kept z)) 5 _ _ (λ q. rw (receipts_seen w (ltb-true w (kept z) q), q))

  release_number : (w : ℕ) → release_refusal z (length c.area) (length c.journal) (header_of c.journal) (sent w) w
      ≡ seen_refusal (Protocol.release w)
  unfolding release_refusal
  release_number w =
      past_open z number c f ok start (stripe_tests w) (release_tests w) (release_seen w) (stripe_passes w) (release_tests_law w)

  pub release_told : (w : ℕ) → step_answer c (release z w)
      ≡ Protocol.step_answer (growth_of z start) (view_of z start c) (Protocol.release w)
  unfolding step_answer Protocol.step_answer Release.release is_released
  release_told w = answered_same _ _ _ _ (release_number w)
      (λ e. within w (kept z) (released_in (sent w)) (release_allowed z _ _ _ _ w e).stripe)

  -- ---- calls on the whole store

  whole_passes : (refuse (not (whole_ok z c.journal)) 4).applies ≡ false
  whole_passes = rw f.whole

  releases_seen : every (kept z) (λ w. is_released (record_at c.journal w)) ≡ every (kept z) (view_of z start c).journal.released
  releases_seen = every_same (kept z) _ _ (λ w l. within w (kept z) (is_released (record_at c.journal w)) l)

  close_refusal_law : close_refusal z (length c.area) c.journal ≡ seen_refusal Protocol.close
  unfolding close_refusal
  close_refusal_law =
      past_open z number c f ok start
      (wrong_length (length c.area) (area_length z) ∷ wrong_length (length c.journal) (journal_length z)
      ∷ refuse (not (whole_ok z c.journal)) 4 ∷ [])
      (refuse (not (every (kept z) (λ w. is_released (record_at c.journal w)))) 8 ∷ [])
      (refuse (not (every (kept z) (view_of z start c).journal.released)) 8 ∷ [])
      (right_area z number c f, (right_journal z number c f, (whole_passes, tt)))
      (rw releases_seen)

  pub close_told : step_answer c (close z) ≡ Protocol.step_answer (growth_of z start) (view_of z start c) Protocol.close
  unfolding step_answer Protocol.step_answer Close.close
  close_told = answered_same _ _ false false close_refusal_law (λ q. refl)

  -- drive asks only whether the journal is open
  pub drive_refusal_law : (spaceBytes : ℕ) → spaceBytes ≡ message_length z + receipt_length
      → drive_refusal z (length c.area) c.journal spaceBytes
      ≡ if (World.counts_as_open (view_of z start c).journal.state) 0 (World.ended_refusal (view_of z start c).journal.state)
  unfolding drive_refusal
  drive_refusal_law spaceBytes long =
      past_open z number c f ok start
      (wrong_length (length c.area) (area_length z) ∷ wrong_length (length c.journal) (journal_length z)
      ∷ wrong_length spaceBytes (message_length z + receipt_length) ∷ refuse (not (whole_ok z c.journal)) 4 ∷ [])
      [] []
      (right_area z number c f, (right_journal z number c f, (right_length _ _ long, (whole_passes, tt))))
      refl
      ∙ turned (World.counts_as_open (view_of z start c).journal.state) (World.ended_refusal (view_of z start c).journal.state)
