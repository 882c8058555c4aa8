-- `capi::taldrimsu_deliver` meets its contract. Assumes nothing.
use mathlib.Core.Path.{refl}
use Rattle.growth.specs.Deliver.{deliver}
use Rattle.capi.specs.Calls.{left_by_deliver}
use Rattle.capi.proofs.Handed.{handed}
use Rattle.capi.proofs.taldrimsu_deliver.Goals as goal

pub returns : goal.returns
returns c =
    let made = c in
    let a = made.args in
    let o = c.deliver in
    handed left_by_deliver
    (λ x. deliver x a.cells.now a.book.now a.node a.message.now a.receipt.now)
    _ _ _ _ c.code_step.ensures o.ensures refl
