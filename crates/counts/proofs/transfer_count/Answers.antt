-- `counts::transfer_count` meets its contract. Assumes nothing.
use mathlib.Core.Path.{refl}
use native.Mathlib.Omega.{arith}
use Rattle.layout.specs.Counts.{transfers}
use Rattle.counts.proofs.transfer_count.Goals as goal

pub returns : goal.returns
unfolding transfers
returns c = (refl, omega arith)
