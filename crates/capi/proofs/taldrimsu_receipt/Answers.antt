-- `capi::taldrimsu_receipt` meets its contract. Assumes nothing.
use mathlib.Core.Path.{refl}
use Rattle.growth.specs.Receipt.{receipt}
use Rattle.capi.specs.Calls.{left_by_receipt}
use Rattle.capi.proofs.Handed.{handed}
use Rattle.capi.proofs.taldrimsu_receipt.Goals as goal

pub returns : goal.returns
returns c =
    let made = c in
    let a = made.args in
    let o = c.receipt in
    handed left_by_receipt
    (λ x. receipt x a.book.now a.node a.receipt.now)
    _ _ _ _ c.code_step.ensures o.ensures refl
