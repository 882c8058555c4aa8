-- `capi::taldrimsu_release` meets its contract. Assumes nothing.
use mathlib.Core.Path.{refl}
use Rattle.growth.specs.Release.{release}
use Rattle.capi.specs.Calls.{left_by_step}
use Rattle.capi.proofs.Handed.{handed}
use Rattle.capi.proofs.taldrimsu_release.Goals as goal

pub returns : goal.returns
returns c =
    let made = c in
    let a = made.args in
    let o = c.release in
    handed left_by_step
    (λ x. release x a.cells.now a.book.now a.w)
    _ _ _ _ c.code_step.ensures o.ensures refl
