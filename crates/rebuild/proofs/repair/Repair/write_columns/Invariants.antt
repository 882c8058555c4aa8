-- `rebuild::repair::Repair::write_columns` meets its contract. Before turn c the columns before c are written. Assumes nothing.
use mathlib.Core.Path.{◌≡◌}
use Prim.Native.Nat.{◌≤◌, ◌-◌}
use lib.ListN.{length}
use Rattle.base.specs.Folds.{run}
use Rattle.rebuild.specs.Steps.{column_step}
use Rattle.rebuild.proofs.repair.Repair.write_columns.Given as goal

abbrev pub invariant-loop-c : goal.invariant-loop-c
invariant-loop-c l =
    (l.c ≤ l.self.k)
    × (l.stripe ≡ run (column_step l.self.n l.self.k l.self.b l.self.losses.now l.w) 0 l.c l.initial.stripe)
    × (length l.stripe ≡ length l.initial.stripe)

abbrev pub decreases-loop-c : goal.decreases-loop-c
decreases-loop-c l = l.self.k - l.c
