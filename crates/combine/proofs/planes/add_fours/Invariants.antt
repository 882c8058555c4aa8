-- `combine::planes::add_fours` meets its contract. Before each turn the blocks below t are added. Assumes nothing.
use mathlib.Core.Path.{◌≡◌}
use Prim.Native.Nat.{◌≤◌, ◌-◌}
use lib.ListN.{length}
use Rattle.combine.specs.Planes.{Added}
use Rattle.combine.proofs.planes.add_fours.Given as goal

abbrev pub invariant-loop-t : goal.invariant-loop-t
invariant-loop-t l = (l.from ≤ l.t) × (l.t ≤ l.s) × (length l.out ≡ length l.initial.out) × Added l.sel l.src l.initial.out l.out l.from l.t

abbrev pub decreases-loop-t : goal.decreases-loop-t
decreases-loop-t l = l.s - l.t
