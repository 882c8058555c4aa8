-- `encode::encode_stripe` meets its contract. Assumes nothing.
use Rattle.cells.proofs.StripeLaws.{stripe_there}
use Rattle.encode.proofs.StripeRows.{stripe_written}
use Rattle.encode.proofs.encode_stripe.Goals as goal

pub write_rows-requires-clause-at_len : goal.write_rows-requires-clause-at_len
write_rows-requires-clause-at_len c =
    let pre = c.requires in
    let offsets = c.stripe_offsets.ensures in
    (offsets.columns.size, stripe_there _ c.args.z.in_ranges _ pre.area_len.1 offsets _ pre.area_len.0)

pub returns : goal.returns
returns c =
    let pre = c.requires in
    let offsets = c.stripe_offsets.ensures in
    stripe_written _ c.args.z.in_ranges _ _ pre.area_len.1 offsets c.write_rows.ensures
