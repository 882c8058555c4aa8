-- `begin::all_hold` meets its contract. Before turn g the first g stripes hold. Assumes nothing.
use mathlib.Core.Bool.{not}
use mathlib.Core.Path.{ap}
use native.Mathlib.Omega.{arith}
use Rattle.base.proofs.Tests.{every_none, every_stop, every_turn, every_end}
use Rattle.begin.proofs.all_hold.Goals as goal

pub loop-g-init : goal.loop-g-init
loop-g-init c = every_none _

pub returns-then-not-stripe_holds : goal.returns-then-not-stripe_holds
returns-then-not-stripe_holds c =
    let count = c.stripe_count-g-end.ensures.0 in
    every_stop _ _ c.loop-g.g (omega arith) c.stripe_holds.ensures (ap not c.if-not-stripe_holds.true)

pub loop-g-preserved : goal.loop-g-preserved
loop-g-preserved c = every_turn _ _ c.loop-g.invariant c.stripe_holds.ensures (ap not c.if-not-stripe_holds.false)

pub returns : goal.returns
returns c =
    let count = c.stripe_count-g-end.ensures.0 in
    every_end _ _ c.loop-g.invariant (omega arith) (omega arith)
