-- `code::running::fill_powers` meets its contract. Before turn c the columns below c have their powers, and the running value is that of c.
-- Assumes nothing.
use mathlib.Core.Path.{◌≡◌}
use native.Mathlib.Omega.{arith}
use Rattle.code.proofs.RunningPowers.{up_to_start, up_to_next, running}
use Rattle.code.proofs.running.fill_powers.Goals as goal

pub loop-c-init : goal.loop-c-init
loop-c-init c = up_to_start _ _

pub loop-c-preserved : goal.loop-c-preserved
loop-c-preserved c = up_to_next _ _ _ _ c.loop-c.invariant (omega arith) c.mul-power.ensures

pub returns : goal.returns
returns c =
    let loop = c.loop-c in
    let args = c.args in
    let e : loop.c ≡ args.count = omega arith in running args.m args.count loop.power loop.q (rw (← e) loop.invariant)
