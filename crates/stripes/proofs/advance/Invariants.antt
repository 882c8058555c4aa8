-- `stripes::advance` meets its contract. Before turn p the first p offsets have moved, and the others have not. Assumes nothing.
use mathlib.Core.Path.{◌≡◌}
use Prim.Native.Nat.{ℕ, ◌+◌, ◌≤◌, ◌<◌, ◌-◌}
use lib.ListN.{length, get_or}
use Rattle.stripes.proofs.advance.Given as goal

abbrev pub invariant-loop-p : goal.invariant-loop-p
invariant-loop-p l =
    (l.p ≤ l.n) × (length l.at ≡ 20) × ((q : ℕ) → q < l.p → get_or l.at q 0 ≡ get_or l.initial.at q 0 + l.piece)
    × ((q : ℕ) → l.p ≤ q → get_or l.at q 0 ≡ get_or l.initial.at q 0)

abbrev pub decreases-loop-p : goal.decreases-loop-p
decreases-loop-p l = l.n - l.p
