-- `capi::taldrimsu_encode` meets its contract. Assumes nothing.
use mathlib.Core.Path.{refl}
use Rattle.growth.specs.Encode.{encode}
use Rattle.capi.specs.Calls.{left_by_encode}
use Rattle.capi.proofs.Handed.{handed}
use Rattle.capi.proofs.taldrimsu_encode.Goals as goal

pub returns : goal.returns
returns c =
    let made = c in
    let a = made.args in
    let o = c.encode in
    handed left_by_encode
    (λ x. encode x a.cells.now)
    _ _ _ _ c.code_step.ensures o.ensures refl
