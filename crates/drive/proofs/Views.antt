-- What the calls leave in the area, the journal and the two parts of the message space is what the steps of a drive leave in its store.
-- Assumes nothing.
use mathlib.Core.Path.{◌≡◌, ap, ◌∙◌}
use mathlib.Core.List.{List, ◌++◌}
use Prim.Native.Nat.{ℕ, ◌+◌}
use native.Mathlib.Omega.{arith}
use lib.ListN.{length, take, drop, length-take}
use Rattle.layout.specs.declared.Shape.{Shape}
use Rattle.layout.specs.Transfers.{sender}
use Rattle.growth.specs.Shared.{Outcome}
use Rattle.growth.specs.Compute.{compute}
use Rattle.growth.specs.Send.{SendOutcome, message_length, send}
use Rattle.growth.specs.Receipt.{receipt}
use Rattle.growth.specs.Release.{release}
use Rattle.growth.specs.Drive.{lent_store, compute_on, send_on, receipt_on, release_on}
use Rattle.growth.proofs.BufferLaws.{first_long, send_buffers}
use Rattle.drive.proofs.Spaces.{front_written, front_leaves}

module _ (z : Shape) (area journal space : List ℕ) (w : ℕ) where
  pub compute_view : (o : Outcome) → o ≡ compute z area journal w
      → lent_store z o.area o.journal space ≡ compute_on z w (lent_store z area journal space)
  unfolding compute_on
  compute_view o q = ap (λ x. lent_store z x.area x.journal space) q

  pub release_view : (o : Outcome) → o ≡ release z area journal w
      → lent_store z o.area o.journal space ≡ release_on z w (lent_store z area journal space)
  unfolding release_on
  release_view o q = ap (λ x. lent_store z x.area x.journal space) q

  pub receipt_view : {journal' : List ℕ} → journal' ≡ (receipt z journal (sender z w) (drop (message_length z) space)).journal
      → lent_store z area journal' space ≡ receipt_on z w (lent_store z area journal space)
  unfolding receipt_on
  receipt_view q = ap (λ x. lent_store z area x space) q

  module _ (long : length space ≡ 32 + z.b) where
    sent_long : (e : ℕ) → length (send z area journal w e (take (message_length z) space)).space ≡ message_length z
    sent_long e = first_long (send_buffers z area journal w e (take (message_length z) space)) ∙ simp (length-take) (omega arith)

    pub send_view : (e : ℕ) (o : SendOutcome) → o ≡ send z area journal w e (take (message_length z) space)
        → lent_store z area journal (o.space ++ drop (message_length z) space) ≡ send_on z w e (lent_store z area journal space)
    unfolding send_on
    send_view e o q =
        let m = (send z area journal w e (take (message_length z) space)).space in
        ap (λ x. lent_store z area journal (x.space ++ drop (message_length z) space)) q
        ∙ rw (front_written (message_length z) space m (sent_long e), front_leaves (message_length z) space m (sent_long e))
