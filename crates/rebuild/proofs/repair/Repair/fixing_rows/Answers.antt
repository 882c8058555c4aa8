-- `rebuild::repair::Repair::fixing_rows` meets its contract. Before turn c the first c columns are present or fixed, and the rows that give
-- them are stored. Assumes nothing.
use mathlib.Core.Path.{refl, sym, ap}
use mathlib.Core.Bool.{not}
use native.Mathlib.Omega.{arith}
use Rattle.base.proofs.Tests.{every_none, every_stop, every_turn, every_end}
use Rattle.rebuild.specs.Steps.{columns_hold}
use Rattle.rebuild.proofs.FixingLaws.{fixing_none, fixing_end}
use Rattle.rebuild.proofs.repair.Repair.fixing_rows.Goals as goal

pub loop-c-init : goal.loop-c-init
loop-c-init c = (every_none _, fixing_none _ _ _, refl)

pub returns-then-not-column_holds : goal.returns-then-not-column_holds
unfolding columns_hold
returns-then-not-column_holds c =
    sym (every_stop _ _ c.loop-c.c (omega (arith, c.args.self.now.sizes)) c.column_holds.ensures.value (ap not c.if-not-column_holds.true))

pub loop-c-preserved : goal.loop-c-preserved
loop-c-preserved c =
    let loop = c.loop-c in
    let holds = ap not c.if-not-column_holds.false in (
      every_turn _ _ loop.invariant.0 c.column_holds.ensures.value holds,
      c.column_holds.ensures.rows c.if-not-column_holds.false,
      omega arith,
    )

pub returns : goal.returns
unfolding columns_hold
returns c =
    let done = c.loop-c.invariant in (
      sym (every_end _ _ done.0 (omega (arith, c.args.self.now.sizes)) (omega (arith, c.args.self.now.sizes))),
      fixing_end _ _ _ _ _
          done.1 (omega (arith, c.args.self.now.sizes)) (omega (arith, c.args.self.now.sizes)),
    )
