-- What contents that are in order let a call rely on: the header and the words pass their tests, and the count leaves room for a missing
-- mark. Assumes nothing.
use mathlib.Core.Path.{◌≡◌}
use mathlib.Core.Bool.{true, not}
use Prim.Native.Nat.{ℕ, ◌^◌, ◌<◌}
use lib.Dec.{ltb}
use borrow.Author.Tests.{lt-ltb, not-true}
use Rattle.base.proofs.Tests.{and_both, only_if_law}
use Rattle.layout.specs.declared.Shape.{Shape}
use Rattle.layout.specs.Counts.{kept, transfers, all_transfers}
use Rattle.wire.specs.Words.{bit}
use Rattle.wire.proofs.WordLaws.{rest_lt}
use Rattle.records.specs.Records.{is_accepted}
use Rattle.records.specs.Conditions.{progress_ok}
use Rattle.journal.specs.Journal.{header_of, number_of, count_of, record_at}
use Rattle.growth.specs.Deliver.{room_for}
use Rattle.growth.proofs.WholeParts.{WholeParts, whole_parts}
use Rattle.growth.proofs.DeliveredJournals.{count_room}
use Rattle.history.specs.Contents.{Contents}
use Rattle.history.proofs.Growths.{Fit}

module _ (z : Shape) (number : ℕ) (c : Contents) (f : Fit z number c) where
  pub parts : WholeParts z c.journal
  parts = whole_parts z c.journal f.whole

  -- a number that a word holds
  pub number_few : number < 2 ^ 28
  unfolding number_of
  number_few = rw f.number_is at (rest_lt (header_of c.journal).growth)

  -- kind 11 of a stripe, where there is one
  pub sent_sound : (w : ℕ) → w < kept z → progress_ok z (record_at c.journal w).progress ≡ true
  sent_sound w l = (parts.records w l).progress_word_law

  -- a transfer's mark is set, or there is room for it; the journal may be closed
  pub room_for_law : (w e : ℕ) → w < kept z → e < transfers z → room_for z (header_of c.journal) (record_at c.journal w).accepted e ≡ true
  unfolding room_for is_accepted
  room_for_law w e l m = and_both _ _ (parts.records w l).accepted_word_law
      (only_if_law (not (bit (record_at c.journal w).accepted e)) (ltb (count_of (header_of c.journal)) (all_transfers z))
      (λ q. lt-ltb _ _ (count_room z c.journal w e parts.counted l m (not-true _ q))))
