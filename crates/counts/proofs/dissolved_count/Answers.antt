-- `counts::dissolved_count` meets its contract. Assumes nothing.
use mathlib.Core.Path.{refl}
use Rattle.layout.specs.Counts.{dissolved}
use Rattle.counts.proofs.Sizes.{dissolved_le}
use Rattle.counts.proofs.dissolved_count.Goals as goal

pub returns : goal.returns
unfolding dissolved
returns c = (refl, dissolved_le _ c.args.z.in_ranges)
