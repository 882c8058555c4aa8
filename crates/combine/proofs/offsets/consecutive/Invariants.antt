-- `combine::offsets::consecutive` meets its contract. Before turn c the first c offsets are there. Assumes nothing.
use mathlib.Core.Path.{◌≡◌}
use Prim.Native.Nat.{◌≤◌, ◌-◌}
use lib.ListN.{length}
use Rattle.combine.specs.Columns.{Consecutive}
use Rattle.combine.proofs.offsets.consecutive.Given as goal

abbrev pub invariant-loop-c : goal.invariant-loop-c
invariant-loop-c l = (l.c ≤ l.n) × (length l.at ≡ 20) × Consecutive l.c l.b l.at

abbrev pub decreases-loop-c : goal.decreases-loop-c
decreases-loop-c l = l.n - l.c
