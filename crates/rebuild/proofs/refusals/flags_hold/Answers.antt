-- `rebuild::refusals::flags_hold` meets its contract. Before turn p the first p loss bytes are 0 or 1. Assumes nothing.
use mathlib.Core.Path.{sym}
use Prim.Native.Nat.{zero-le}
use native.Mathlib.Omega.{arith}
use borrow.Author.Tests.{le-leb, lt-leb}
use Rattle.base.proofs.Tests.{every_none, every_more, every_fails, every_end}
use Rattle.recovery.specs.Rebuild.{is_flag}
use Rattle.rebuild.proofs.refusals.flags_hold.Goals as goal

pub loop-p-init : goal.loop-p-init
loop-p-init c = (zero-le, every_none _)

pub bounds-losses-p : goal.bounds-losses-p
bounds-losses-p c = omega arith

pub returns-then-losses-p-gt1 : goal.returns-then-losses-p-gt1
unfolding is_flag
returns-then-losses-p-gt1 c = sym (every_fails _ _ c.loop-p.p (omega arith) (lt-leb _ _ c.if-losses-p-gt1.true))

pub overflow_step-p : goal.overflow_step-p
overflow_step-p c = omega arith

pub loop-p-smaller : goal.loop-p-smaller
loop-p-smaller c = omega arith

pub loop-p-preserved : goal.loop-p-preserved
unfolding is_flag
loop-p-preserved c = (omega arith, every_more _ _ c.loop-p.invariant.1 (le-leb _ _ c.if-losses-p-gt1.false))

pub returns : goal.returns
returns c = every_end _ _ c.loop-p.invariant.1 (omega arith) (omega arith)
