-- `rebuild::repair::Repair::column_holds` meets its contract. Assumes nothing.
use mathlib.Core.Bool.{false≢true}
use native.Mathlib.Omega.{arith}
use Rattle.rebuild.proofs.FixingLaws.{column_present, column_lost, fixing_left, fixing_more}
use Rattle.rebuild.proofs.repair.Repair.column_holds.Goals as goal

pub returns-in-OpenBy-clause-value : goal.returns-in-OpenBy-clause-value
returns-in-OpenBy-clause-value c = column_lost _ _ _ _ c.if-self-c-eq1.true c.column_of.ensures c.in-OpenBy.is

pub returns-in-OpenBy-clause-rows : goal.returns-in-OpenBy-clause-rows
returns-in-OpenBy-clause-rows c = λ e. absurd (false≢true e)

pub returns-in-FixedBy-clause-value : goal.returns-in-FixedBy-clause-value
returns-in-FixedBy-clause-value c = column_lost _ _ _ _ c.if-self-c-eq1.true c.column_of.ensures c.in-FixedBy.is

pub returns-in-FixedBy-clause-rows : goal.returns-in-FixedBy-clause-rows
returns-in-FixedBy-clause-rows c =
    λ _. fixing_more _ _ _ _ _ c.requires.fixing_rows.0 _ c.column_of.ensures c.in-FixedBy.is (omega (arith, c.args.self.now.sizes))

pub returns-else-self-c-eq1-clause-value : goal.returns-else-self-c-eq1-clause-value
returns-else-self-c-eq1-clause-value c = column_present _ _ _ _ c.if-self-c-eq1.false

pub returns-else-self-c-eq1-clause-rows : goal.returns-else-self-c-eq1-clause-rows
returns-else-self-c-eq1-clause-rows c = λ _. fixing_left _ _ _ _ _ c.requires.fixing_rows.0 c.if-self-c-eq1.false
