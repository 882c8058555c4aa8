-- `area::copy_within` meets its contract. Before turn i the first i bytes are stored; the block that is read is still as it was. Assumes
-- nothing.
use mathlib.Core.Path.{◌≡◌}
use Prim.Native.Nat.{◌+◌, ◌≤◌, ◌-◌}
use lib.ListN.{length, get_or}
use Rattle.area.specs.Area.{writes}
use Rattle.area.proofs.copy_within.Given as goal

abbrev pub invariant-loop-i : goal.invariant-loop-i
invariant-loop-i l = (l.i ≤ l.b) × (l.area ≡ writes l.initial.area l.at (λ k. get_or l.initial.area (l.from + k) 0) l.i)
    × (length l.area ≡ length l.initial.area)

abbrev pub decreases-loop-i : goal.decreases-loop-i
decreases-loop-i l = l.b - l.i
