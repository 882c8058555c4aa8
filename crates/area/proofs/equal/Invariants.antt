-- `area::equal` meets its contract. What is collected before turn i is 0 exactly if the first i bytes are the same. Assumes nothing.
use Prim.Native.Nat.{◌≤◌, ◌-◌}
use Rattle.area.proofs.Compare.{Collected}
use Rattle.area.proofs.equal.Given as goal

abbrev pub invariant-loop-i : goal.invariant-loop-i
invariant-loop-i l = (l.i ≤ l.b) × Collected l.x l.at l.y l.from l.i l.differ

abbrev pub decreases-loop-i : goal.decreases-loop-i
decreases-loop-i l = l.b - l.i
