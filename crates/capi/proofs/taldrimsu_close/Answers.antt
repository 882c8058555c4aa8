-- `capi::taldrimsu_close` meets its contract. Assumes nothing.
use mathlib.Core.Path.{refl}
use Rattle.growth.specs.Close.{close}
use Rattle.capi.specs.Calls.{left_by_step}
use Rattle.capi.proofs.Handed.{handed}
use Rattle.capi.proofs.taldrimsu_close.Goals as goal

pub returns : goal.returns
returns c =
    let made = c in
    let a = made.args in
    let o = c.close in
    handed left_by_step
    (λ x. close x a.cells.now a.book.now)
    _ _ _ _ c.code_step.ensures o.ensures refl
