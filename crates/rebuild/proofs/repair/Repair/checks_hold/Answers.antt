-- `rebuild::repair::Repair::checks_hold` meets its contract. Before turn i the first i checks vanish. Assumes nothing.
use mathlib.Core.Bool.{not}
use mathlib.Core.Path.{ap}
use Prim.Native.Nat.{zero-le}
use native.Mathlib.Omega.{arith}
use Rattle.base.proofs.Tests.{every_none, every_stop, every_turn, every_end}
use Rattle.rebuild.specs.Steps.{checks_by}
use Rattle.rebuild.proofs.ReadLaws.{check_told}
use Rattle.rebuild.proofs.repair.Repair.checks_hold.Goals as goal

pub loop-i-init : goal.loop-i-init
loop-i-init c = (zero-le, every_none _)

pub check-u-requires : goal.check-u-requires
check-u-requires c = omega (arith, c.args.self.now.sizes)

pub vanishes-requires : goal.vanishes-requires
vanishes-requires c = c.requires

pub returns-then-not-vanishes : goal.returns-then-not-vanishes
unfolding checks_by
returns-then-not-vanishes c =
    let loop = c.loop-i in
    let check = c.check-u in
    let vanishes = c.vanishes in
    let if1 = c.if-not-vanishes in
    every_stop _ _ loop.i (omega (arith, c.args.self.now.sizes)) (check_told _ _ _ _ _ _ check.ensures vanishes.ensures) (ap not if1.true)

pub overflow_step-i : goal.overflow_step-i
overflow_step-i c = omega (arith, c.args.self.now.sizes)

pub loop-i-smaller : goal.loop-i-smaller
loop-i-smaller c = omega (arith, c.args.self.now.sizes)

pub loop-i-preserved : goal.loop-i-preserved
loop-i-preserved c =
    let loop = c.loop-i in
    let check = c.check-u in
    let vanishes = c.vanishes in
    let if1 = c.if-not-vanishes in (
      omega (arith, c.args.self.now.sizes),
      every_turn _ _ loop.invariant.1 (check_told _ _ _ _ _ _ check.ensures vanishes.ensures) (ap
          not if1.false),
    )

pub returns : goal.returns
unfolding checks_by
returns c = every_end _ _ c.loop-i.invariant.1 (omega (arith, c.args.self.now.sizes)) (omega (arith, c.args.self.now.sizes))
