-- `capi::taldrimsu_send` meets its contract. Assumes nothing.
use mathlib.Core.Path.{refl}
use Rattle.growth.specs.Send.{send}
use Rattle.capi.specs.Calls.{left_by_send}
use Rattle.capi.proofs.Handed.{handed}
use Rattle.capi.proofs.taldrimsu_send.Goals as goal

pub returns : goal.returns
returns c =
    let made = c in
    let a = made.args in
    let o = c.send in
    handed left_by_send
    (λ x. send x a.cells.now a.book.now a.w a.e a.message.now)
    _ _ _ _ c.code_step.ensures o.ensures refl
