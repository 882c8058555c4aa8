-- `begin::zero_new_nodes` meets its contract. Before turn v the new nodes below v are zero. Assumes nothing.
use mathlib.Core.Path.{◌≡◌}
use Prim.Native.Nat.{◌-◌}
use Rattle.base.specs.Folds.{run}
use Rattle.begin.proofs.NewNodes.{zero_node}
use Rattle.begin.proofs.zero_new_nodes.Given as goal

abbrev pub invariant-loop-v : goal.invariant-loop-v
invariant-loop-v l = l.area ≡ run (zero_node l.z.shape) l.z.shape.n (l.v - l.z.shape.n) l.initial.area
