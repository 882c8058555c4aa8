-- `drive::drive_stripes` meets its contract. Assumes nothing.
use mathlib.Core.Path.{◌≡◌, refl, ap, ◌∙◌}
use Prim.Native.Nat.{ℕ}
use native.Mathlib.Omega.{arith}
use Rattle.layout.specs.Counts.{kept, transfers}
use Rattle.protocol.specs.Drive.{goes_on, drive_stripes, driven}
use Rattle.growth.specs.Drive.{store_drive, lent_store, driven_store}
use Rattle.answer.proofs.Exits.{passed}
use Rattle.drive.proofs.Turns.{next_stripe, last_stripe}
use Rattle.drive.proofs.drive_stripes.Goals as goal

pub returns-in_err-total : goal.returns-in_err-total
unfolding driven_store driven
returns-in_err-total c =
    let args = c.args in
    let loop = c.loop-w in
    rw (passed _ _ c.from_residual.ensures.1) (last_stripe (store_drive args.z.shape) args.limit (transfers args.z.shape) loop.w
    (goes_on (lent_store args.z.shape args.area.now args.journal.now args.space.now) 0) _ _ loop.invariant.0
    c.in_err-total.ensures (kept args.z.shape) (omega (arith, c.kept_count-w-end.ensures.0)) refl)

pub loop-w-init : goal.loop-w-init
unfolding drive_stripes
loop-w-init c = (refl, (refl, refl, refl))

pub returns : goal.returns
unfolding driven_store driven
returns c =
    let args = c.args in
    let kept-count = c.kept_count-w-end in
    let all : c.loop-w.w ≡ kept args.z.shape = omega (arith, kept-count.ensures.0) in
    c.loop-w.invariant.0 ∙ ap (λ (n : ℕ). drive_stripes (store_drive args.z.shape) args.limit (transfers args.z.shape) n
    (goes_on (lent_store args.z.shape args.area.now args.journal.now args.space.now) 0)) all

pub loop-w-preserved : goal.loop-w-preserved
loop-w-preserved c =
    let args = c.args in
    let loop = c.loop-w in (
      next_stripe (store_drive args.z.shape) args.limit (transfers args.z.shape) loop.w
          (goes_on (lent_store args.z.shape args.area.now args.journal.now args.space.now) 0) _ _ loop.invariant.0
          c.in_ok-total.ensures,
      (omega arith, omega arith, omega arith),
    )
