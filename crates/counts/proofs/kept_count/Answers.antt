-- `counts::kept_count` meets its contract. Assumes nothing.
use mathlib.Core.Path.{refl}
use Rattle.layout.specs.Counts.{kept}
use Rattle.layout.proofs.Bounds.{kept_le}
use Rattle.counts.proofs.kept_count.Goals as goal

pub returns : goal.returns
unfolding kept
returns c = (refl, kept_le _ c.args.z.in_ranges)
