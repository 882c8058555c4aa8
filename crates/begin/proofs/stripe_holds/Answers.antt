-- `begin::stripe_holds` meets its contract. Assumes nothing.
use Rattle.cells.proofs.StripeLaws.{inside_there}
use Rattle.begin.proofs.RowTests.{stripe_tested}
use Rattle.begin.proofs.stripe_holds.Goals as goal

pub rows_hold-requires-clause-at_len : goal.rows_hold-requires-clause-at_len
rows_hold-requires-clause-at_len c =
    let pre = c.requires in
    let offsets = c.stripe_offsets.ensures in
    (offsets.columns.size, inside_there _ c.args.z.in_ranges _ pre.area_len.1 offsets _ pre.area_len.0)

pub returns : goal.returns
returns c =
    let pre = c.requires in
    let offsets = c.stripe_offsets.ensures in
    stripe_tested _ c.args.z.in_ranges _ _ pre.area_len.1 offsets c.rows_hold.ensures
