-- `capi::taldrimsu_compute` meets its contract. Assumes nothing.
use mathlib.Core.Path.{refl}
use Rattle.growth.specs.Compute.{compute}
use Rattle.capi.specs.Calls.{left_by_step}
use Rattle.capi.proofs.Handed.{handed}
use Rattle.capi.proofs.taldrimsu_compute.Goals as goal

pub returns : goal.returns
returns c =
    let made = c in
    let a = made.args in
    let o = c.compute in
    handed left_by_step
    (λ x. compute x a.cells.now a.book.now a.w)
    _ _ _ _ c.code_step.ensures o.ensures refl
