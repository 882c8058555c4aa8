-- `rebuild::repair::Repair::write_rows` meets its contract. Before turn j the rows before j are written. Assumes nothing.
use mathlib.Core.Path.{◌≡◌}
use Prim.Native.Nat.{◌≤◌, ◌-◌}
use lib.ListN.{length}
use Rattle.base.specs.Folds.{run}
use Rattle.recovery.specs.Rebuild.{stripe_multiplier}
use Rattle.rebuild.specs.Steps.{row_step}
use Rattle.rebuild.proofs.repair.Repair.write_rows.Given as goal

abbrev pub invariant-loop-j : goal.invariant-loop-j
invariant-loop-j l =
    (l.j ≤ l.self.n - l.self.k)
    × (l.stripe ≡ run (row_step stripe_multiplier l.self.k l.self.b l.self.losses.now) 0 l.j l.initial.stripe)
    × (length l.stripe ≡ length l.initial.stripe)

abbrev pub decreases-loop-j : goal.decreases-loop-j
decreases-loop-j l = l.self.n - l.self.k - l.j
