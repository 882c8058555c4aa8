-- `rebuild::repair::Repair::fixing_rows` meets its contract. Before turn c the first c columns are present or fixed, and the rows that give
-- them are stored. Assumes nothing.
use mathlib.Core.Path.{◌≡◌}
use mathlib.Core.Bool.{true}
use lib.ListN.{length}
use Rattle.base.specs.Tests.{every}
use Rattle.rebuild.specs.Steps.{column_holds, FixingRows}
use Rattle.rebuild.proofs.repair.Repair.fixing_rows.Given as goal

abbrev pub invariant-loop-c : goal.invariant-loop-c
invariant-loop-c l =
    (every l.c (column_holds l.self.k l.self.losses.now l.w) ≡ true) × FixingRows l.c l.self.k l.self.losses.now l.w l.fixing × (length
    l.fixing ≡ 20)
