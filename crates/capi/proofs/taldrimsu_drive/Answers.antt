-- `capi::taldrimsu_drive` meets its contract. Assumes nothing.
use mathlib.Core.Path.{ap, refl}
use Rattle.growth.specs.Drive.{drive}
use Rattle.capi.specs.Calls.{left_by_drive}
use Rattle.capi.proofs.Handed.{handed}
use Rattle.capi.proofs.Bounds.{accepted_small}
use Rattle.capi.proofs.taldrimsu_drive.Goals as goal

pub code_drive-requires : goal.code_drive-requires
code_drive-requires c =
    rw (ap (λ o. o.answer) c.drive.ensures) (accepted_small _ _ _ _ _)

pub returns : goal.returns
returns c =
    let made = c in
    let a = made.args in
    let o = c.drive in
    handed left_by_drive
    (λ x. drive x a.cells.now a.book.now a.space.now a.limit)
    _ _ _ _ c.code_drive.ensures o.ensures refl
