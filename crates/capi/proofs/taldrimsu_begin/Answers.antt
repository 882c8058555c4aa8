-- `capi::taldrimsu_begin` meets its contract. Assumes nothing.
use mathlib.Core.Path.{refl}
use Rattle.growth.specs.Begin.{begin}
use Rattle.capi.specs.Calls.{left_by_step}
use Rattle.capi.proofs.Handed.{handed}
use Rattle.capi.proofs.taldrimsu_begin.Goals as goal

pub returns : goal.returns
returns c =
    let made = c in
    let a = made.args in
    let o = c.begin in
    handed left_by_step
    (λ x. begin x a.cells.now a.book.now a.number)
    _ _ _ _ c.code_step.ensures o.ensures refl
