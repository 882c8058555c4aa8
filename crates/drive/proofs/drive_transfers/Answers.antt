-- `drive::drive_transfers` meets its contract. Assumes nothing.
use mathlib.Core.Path.{◌≡◌, refl, ap, ◌∙◌}
use Prim.Native.Nat.{ℕ}
use native.Mathlib.Omega.{arith}
use Rattle.layout.specs.Counts.{transfers}
use Rattle.protocol.specs.Drive.{goes_on, drive_transfers}
use Rattle.growth.specs.Drive.{store_drive, lent_store}
use Rattle.answer.proofs.Exits.{passed}
use Rattle.drive.proofs.Turns.{next_transfer, last_transfer}
use Rattle.drive.proofs.drive_transfers.Goals as goal

pub returns-in_err-total : goal.returns-in_err-total
returns-in_err-total c =
    let args = c.args in
    let loop = c.loop-e in
    rw (passed _ _ c.from_residual.ensures.1) (last_transfer (store_drive args.z.shape) args.limit args.w loop.e
    (goes_on (lent_store args.z.shape args.area.now args.journal.now args.space.now) args.accepted) _ _ loop.invariant.0
    c.in_err-total.ensures (transfers args.z.shape) (omega (arith, c.transfer_count-e-end.ensures.0)) refl)

pub loop-e-init : goal.loop-e-init
unfolding drive_transfers
loop-e-init c = (refl, (refl, refl, refl))

pub returns : goal.returns
returns c =
    let args = c.args in
    let transfer-count = c.transfer_count-e-end in
    let all : c.loop-e.e ≡ transfers args.z.shape = omega (arith, transfer-count.ensures.0) in
    c.loop-e.invariant.0 ∙ ap (λ (n : ℕ). drive_transfers (store_drive args.z.shape) args.limit args.w n
    (goes_on (lent_store args.z.shape args.area.now args.journal.now args.space.now) args.accepted)) all

pub loop-e-preserved : goal.loop-e-preserved
loop-e-preserved c =
    let args = c.args in
    let loop = c.loop-e in (
      next_transfer (store_drive args.z.shape) args.limit args.w loop.e
          (goes_on (lent_store args.z.shape args.area.now args.journal.now args.space.now) args.accepted) _ _ loop.invariant.0
          c.in_ok-total.ensures,
      (omega arith, omega arith, omega arith),
    )
