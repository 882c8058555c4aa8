-- `passes::each` meets its contract. Before turn i the first i bytes are made. Assumes nothing.
use Rattle.std.proofs.Common.{◌≡◌, ◌≤◌, ◌<◌, ℕ, get_or}
use Rattle.passes.proofs.each.Given as goal

abbrev pub invariant-loop-i : goal.invariant-loop-i
invariant-loop-i g l =
    ((k : ℕ) → k < l.i → goal.F-post g l.f k (get_or l.initial.out k 0) (get_or l.out k 0))
    × ((k : ℕ) → l.i ≤ k → get_or l.out k 0 ≡ get_or l.initial.out k 0)
