-- `counts::all_transfers` meets its contract. Assumes nothing.
use mathlib.Core.Path.{refl}
use Rattle.layout.specs.Counts.{all_transfers}
use Rattle.layout.proofs.Bounds.{all_transfers_le}
use Rattle.counts.proofs.all_transfers.Goals as goal

pub returns : goal.returns
unfolding all_transfers
returns c = rw (c.kept_count.ensures.0, c.transfer_count.ensures.0) (refl, all_transfers_le _ c.args.z.in_ranges)
