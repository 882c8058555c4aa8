-- `drive::drive_stripe` meets its contract. Assumes nothing.
use mathlib.Core.Path.{refl, ap, ◌∙◌}
use Rattle.layout.specs.Counts.{transfers}
use Rattle.protocol.specs.Drive.{goes_on, drive_transfers}
use Rattle.growth.specs.Drive.{Store, store_drive, lent_store}
use Rattle.answer.proofs.Exits.{passed}
use Rattle.drive.proofs.Turns.{stripe_stopped, stripe_done}
use Rattle.drive.proofs.Views.{compute_view, release_view}
use Rattle.drive.proofs.drive_stripe.Goals as goal

pub returns-in_err-total : goal.returns-in_err-total
returns-in_err-total c =
    let args = c.args in
    rw (passed _ _ c.from_residual.ensures.1) (stripe_stopped (store_drive args.z.shape) args.limit (transfers args.z.shape) args.w
    (lent_store args.z.shape args.area.now args.journal.now args.space.now) args.accepted _
    (c.in_err-total.ensures ∙ ap (λ (c : Store). drive_transfers (store_drive args.z.shape) args.limit args.w (transfers args.z.shape)
    (goes_on c args.accepted)) (compute_view args.z.shape args.area.now args.journal.now args.space.now args.w _
    c.compute.ensures)) refl)

pub returns : goal.returns
returns c =
    let args = c.args in
    ap (λ (s : Store). goes_on s c.in_ok-total.total) (release_view args.z.shape _ _ _ args.w _ c.release.ensures)
    ∙ stripe_done (store_drive args.z.shape) args.limit (transfers args.z.shape) args.w
    (lent_store args.z.shape args.area.now args.journal.now args.space.now) args.accepted _
    (c.in_ok-total.ensures ∙ ap (λ (c : Store). drive_transfers (store_drive args.z.shape) args.limit args.w (transfers args.z.shape)
    (goes_on c args.accepted)) (compute_view args.z.shape args.area.now args.journal.now args.space.now args.w _
    c.compute.ensures)) refl
