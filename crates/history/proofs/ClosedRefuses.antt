-- Once the journal is closed every call is refused, whatever its arguments. Assumes nothing.
use mathlib.Core.Path.{◌≡◌}
use mathlib.Core.Bool.{true, false}
use lib.ListN.{length}
use Rattle.base.proofs.Tests.{clash}
use Rattle.answer.specs.Answers.{is_refused}
use Rattle.answer.proofs.Answers.{or_refused}
use Rattle.wire.specs.Headers.{header_at, stripe_of}
use Rattle.journal.specs.States.{counts_as_open}
use Rattle.journal.specs.Journal.{header_of, state_of, record_at}
use Rattle.growth.specs.Compute as Compute
use Rattle.growth.specs.Send as Send
use Rattle.growth.specs.Deliver as Deliver
use Rattle.growth.specs.Receipt as Receipt
use Rattle.growth.specs.Release as Release
use Rattle.growth.specs.Close as Close
use Rattle.growth.specs.Drive as Drive
use Rattle.growth.proofs.Allowed.{compute_allowed, send_allowed, deliver_allowed, receipt_allowed, release_allowed, close_allowed}
use Rattle.growth.proofs.Allowed.{drive_allowed}
use Rattle.history.specs.Contents.{Contents}
use Rattle.history.specs.Steps.{compute, send, deliver, receipt, release, close, step_answer}
use Rattle.history.specs.Calls.{Call, step, drive, answer}

-- a call that nothing refuses may rely on an open journal
pub closed_refuses : (c : Contents) → counts_as_open (state_of (header_of c.journal)) ≡ false → (k : Call) → is_refused (answer c k) ≡ true
unfolding answer step_answer Compute.compute Send.send Deliver.deliver Receipt.receipt Release.release Close.close Drive.drive
closed_refuses c over (step (compute y w)) =
    let word = (record_at c.journal w).progress in
    or_refused (Compute.compute_refusal y (length c.area) (length c.journal) (header_of c.journal) word w) _
    (λ q. clash (compute_allowed y (length c.area) (length c.journal) (header_of c.journal) word w q).opened over)
closed_refuses c over (step (send y w e space)) =
    let word = (record_at c.journal w).progress in
    or_refused (Send.send_refusal y (length c.area) (length c.journal) (length space) (header_of c.journal) word w e) _
    (λ q. clash (send_allowed y (length c.area) (length c.journal) (length space) (header_of c.journal) word w e q).opened over)
closed_refuses c over (step (deliver y node bytes space)) =
    let m = header_at bytes 0 in
    let word = (record_at c.journal (stripe_of m)).accepted in
    or_refused (Deliver.deliver_refusal y (length c.area) (length c.journal) (length bytes) (length space) (header_of c.journal) word
    node m) _
    (λ q. clash (deliver_allowed y (length c.area) (length c.journal) (length bytes) (length space) (header_of c.journal) word node
    m q
    ).opened over)
closed_refuses c over (step (receipt y node bytes)) =
    let m = header_at bytes 0 in
    let word = (record_at c.journal (stripe_of m)).progress in
    or_refused (Receipt.receipt_refusal y (length c.journal) (length bytes) (header_of c.journal) word node m) _
    (λ q. clash (receipt_allowed y (length c.journal) (length bytes) (header_of c.journal) word node m q).opened over)
closed_refuses c over (step (release y w)) =
    let word = (record_at c.journal w).progress in
    or_refused (Release.release_refusal y (length c.area) (length c.journal) (header_of c.journal) word w) _
    (λ q. clash (release_allowed y (length c.area) (length c.journal) (header_of c.journal) word w q).opened over)
closed_refuses c over (step (close y)) = or_refused (Close.close_refusal y (length c.area) c.journal) _
    (λ q. clash (close_allowed y (length c.area) c.journal q).opened over)
closed_refuses c over (drive y space limit) = or_refused (Drive.drive_refusal y (length c.area) c.journal (length space)) _
    (λ q. clash (drive_allowed y (length c.area) c.journal (length space) q).0.opened over)
