-- `combine::select::plane_count` meets its contract. Before turn c no coefficient below c is above what is collected. Assumes nothing.
use Prim.Native.Nat.{ℕ, ◌≤◌, ◌<◌}
use lib.ListN.{get_or}
use Rattle.combine.proofs.select.plane_count.Given as goal

abbrev pub invariant-loop-c : goal.invariant-loop-c
invariant-loop-c l = (k : ℕ) → k < l.c → get_or l.q k 0 ≤ l.a
