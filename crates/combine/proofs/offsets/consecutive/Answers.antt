-- `combine::offsets::consecutive` meets its contract. Before turn c the first c offsets are there. Assumes nothing.
use mathlib.Core.Path.{◌≡◌, refl}
use Prim.Native.Nat.{◌≤◌, zero-le}
use native.Mathlib.Nat.{mul-le-mul}
use native.Mathlib.Omega.{arith}
use lib.ListN.{length-set}
use Rattle.combine.proofs.OffsetLaws.{consecutive_none, consecutive_more}
use Rattle.combine.proofs.offsets.consecutive.Goals as goal

pub loop-c-init : goal.loop-c-init
loop-c-init c = (zero-le, refl, consecutive_none _ _)

pub overflow_mul-at : goal.overflow_mul-at
overflow_mul-at c =
    let loop = c.loop-c in
    let args = c.args in
    let h : loop.c ≤ 20 = omega arith in let k : args.b ≤ 4096 = omega arith in omega (arith, mul-le-mul h k)

pub offset_bounds-at-c : goal.offset_bounds-at-c
offset_bounds-at-c c = omega arith

pub bounds-at-c : goal.bounds-at-c
bounds-at-c c = omega arith

pub overflow_step-c : goal.overflow_step-c
overflow_step-c c = omega arith

pub loop-c-smaller : goal.loop-c-smaller
loop-c-smaller c = omega arith

pub loop-c-preserved : goal.loop-c-preserved
loop-c-preserved c =
    let loop = c.loop-c in
    (omega arith, simp length-set (omega arith), consecutive_more _ _ loop.at loop.invariant.2 (omega arith))

pub returns : goal.returns
returns c = let e : c.loop-c.c ≡ c.args.n = omega arith in rw (← e) c.loop-c.invariant.2
