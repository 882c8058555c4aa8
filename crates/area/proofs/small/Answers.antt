-- `area::small` meets its contract. Assumes nothing.
use mathlib.Core.Path.{refl}
use Rattle.area.specs.Scratch.{blank}
use Rattle.area.proofs.small.Goals as goal

pub returns : goal.returns
unfolding blank
returns c = refl
