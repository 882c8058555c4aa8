-- `capi::taldrimsu_read` meets its contract. Assumes nothing.
use mathlib.Core.Path.{refl}
use lib.ListN.{length}
use Rattle.growth.specs.Read.{locate}
use Rattle.numbering.specs.Numbering.{coded_place}
use Rattle.capi.proofs.Handed.{handed_number}
use Rattle.capi.proofs.Bounds.{offset_small}
use Rattle.capi.proofs.taldrimsu_read.Goals as goal

pub code_place-requires : goal.code_place-requires
code_place-requires c = rw c.locate.ensures (offset_small _ c.args.cells.now _ _ _)

pub returns : goal.returns
returns c =
    let made = c in
    let a = made.args in
    let o = c.locate in
    handed_number coded_place
    (λ x. locate x (length a.cells.now) a.book.now a.g a.d)
    _ _ _ _ c.code_place.ensures o.ensures refl
