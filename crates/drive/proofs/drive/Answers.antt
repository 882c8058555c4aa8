-- `drive::drive` meets its contract. Assumes nothing.
use mathlib.Core.Path.{refl, sym}
use native.Mathlib.Omega.{arith}
use Rattle.answer.proofs.Exits.{passed, number_some}
use Rattle.growth.proofs.Allowed.{drive_allowed}
use Rattle.drive.proofs.Outcomes.{refuses, spends, finishes}
use Rattle.drive.proofs.drive.Goals as goal

pub returns-in_err-layout : goal.returns-in_err-layout
returns-in_err-layout c =
    let args = c.args in
    rw (passed _ _ c.from_residual.ensures.1) (refuses args.z args.area.now args.journal.now args.space.now args.limit
    c.in_err-layout.ensures.refusal (number_some _))

pub drive_stripes-requires : goal.drive_stripes-requires
drive_stripes-requires c =
    let (s, l) = drive_allowed c.args.z _ _ _ (sym c.in_ok-layout.ensures.refusal) in rw c.in_ok-layout.ensures.layout (omega arith)

pub returns-in-Ok : goal.returns-in-Ok
returns-in-Ok c =
    let args = c.args in
    finishes args.z args.area.now args.journal.now args.space.now args.limit (sym c.in_ok-layout.ensures.refusal) _ _ _ _ _
    (rw c.in_ok-layout.ensures.layout at c.in-Ok.ensures) refl

pub returns-in-Err : goal.returns-in-Err
returns-in-Err c =
    let args = c.args in
    spends args.z args.area.now args.journal.now args.space.now args.limit (sym c.in_ok-layout.ensures.refusal) _ _ _ _ _
    (rw c.in_ok-layout.ensures.layout at c.in-Err.ensures) refl
