-- `powers::ratio::ratio` meets its contract. Before turn c the first c coefficients are powers. Assumes nothing.
use mathlib.Core.Path.{refl, ◌∙◌}
use Prim.Native.Nat.{◌-◌}
use native.Mathlib.Omega.{arith}
use borrow.Author.Count.{below_more}
use Rattle.powers.proofs.RatioLaws.{multiplier_byte, power_first, power_next, powers_one, powers_all}
use Rattle.powers.proofs.ratio.ratio.Goals as goal

pub returns-then-n-eq1 : goal.returns-then-n-eq1
returns-then-n-eq1 c = powers_one _ _ _ (refl, c.fits-q 0) c.if-n-eq1.true

pub loop-c-init : goal.loop-c-init
loop-c-init c = power_first _ _ _ refl

pub loop-c-preserved : goal.loop-c-preserved
loop-c-preserved c =
    let loop = c.loop-c in
    let next =
    power_next _ _ loop.c (multiplier_byte c.in_ok-m.ensures) (c.fits-q 0) (omega arith) (loop.invariant (loop.c - 1) (omega arith))
    c.times.ensures in
    below_more _ _ loop.invariant (c.if-q-c.false ∙ next)

pub returns : goal.returns
returns c = powers_all _ _ _ (refl, c.fits-q 0) _ c.loop-c.c c.in_ok-m.ensures (omega arith) (omega arith) c.loop-c.invariant
