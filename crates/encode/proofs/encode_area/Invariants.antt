-- `encode::encode_area` meets its contract. Before turn g the first g stripes are written. Assumes nothing.
use mathlib.Core.Path.{◌≡◌}
use Rattle.base.specs.Folds.{run}
use Rattle.growth.specs.Encode.{encode_stripe}
use Rattle.encode.proofs.encode_area.Given as goal

abbrev pub invariant-loop-g : goal.invariant-loop-g
invariant-loop-g l = l.area ≡ run (encode_stripe l.z.shape l.initial.area) 0 l.g l.initial.area
