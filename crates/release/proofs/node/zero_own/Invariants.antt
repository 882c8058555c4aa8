-- `release::node::zero_own` meets its contract. Before turn t the first t sources are zeroed. Assumes nothing.
use mathlib.Core.Path.{◌≡◌}
use lib.ListN.{length}
use Rattle.base.specs.Folds.{run}
use Rattle.release.proofs.OwnSlots.{zero_source}
use Rattle.release.proofs.node.zero_own.Given as goal

abbrev pub invariant-loop-t : goal.invariant-loop-t
invariant-loop-t l = (l.own ≡ run (zero_source l.z.shape l.w) 0 l.t l.initial.own) × (length l.own ≡ length l.initial.own)
