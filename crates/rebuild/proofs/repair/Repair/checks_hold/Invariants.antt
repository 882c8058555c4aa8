-- `rebuild::repair::Repair::checks_hold` meets its contract. Before turn i the first i checks vanish. Assumes nothing.
use mathlib.Core.Path.{◌≡◌}
use mathlib.Core.Bool.{true}
use Prim.Native.Nat.{◌≤◌, ◌-◌}
use Rattle.base.specs.Tests.{every}
use Rattle.area.specs.Area.{zeros, same_bytes}
use Rattle.solver.specs.Solution.{check_by}
use Rattle.rebuild.specs.Steps.{combined_blocks}
use Rattle.rebuild.proofs.repair.Repair.checks_hold.Given as goal

abbrev pub invariant-loop-i : goal.invariant-loop-i
invariant-loop-i l =
    (l.i ≤ 4) × (every l.i (λ i. same_bytes (zeros l.self.b) (combined_blocks l.self.b l.self.n (check_by l.pivots l.w i) l.stripe)) ≡ true)

abbrev pub decreases-loop-i : goal.decreases-loop-i
decreases-loop-i l = 4 - l.i
