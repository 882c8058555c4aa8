-- `close::clear_dissolved` meets its contract. Before turn v the first v nodes are cleared. Assumes nothing.
use mathlib.Core.Path.{◌≡◌}
use lib.ListN.{length}
use Rattle.base.specs.Folds.{run}
use Rattle.close.proofs.Cleared.{clear_node}
use Rattle.close.proofs.clear_dissolved.Given as goal

abbrev pub invariant-loop-v : goal.invariant-loop-v
invariant-loop-v l = (l.area ≡ run (clear_node l.z.shape) 0 l.v l.initial.area) × (length l.area ≡ length l.initial.area)
