-- `capi::taldrimsu_status` meets its contract. Assumes nothing.
use mathlib.Core.Path.{refl}
use Rattle.journal.specs.Status.{status}
use Rattle.numbering.specs.Numbering.{coded_status}
use Rattle.capi.proofs.Handed.{handed_number}
use Rattle.capi.proofs.Bounds.{status_small}
use Rattle.capi.proofs.taldrimsu_status.Goals as goal

pub code_status-requires : goal.code_status-requires
code_status-requires c = rw c.status.ensures (status_small _ _)

pub returns : goal.returns
returns c =
    let made = c in
    let a = made.args in
    let o = c.status in
    handed_number coded_status
    (λ x. status x a.book.now)
    _ _ _ _ c.code_status.ensures o.ensures refl
