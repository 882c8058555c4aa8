-- `powers::scaling::doublings` meets its contract. Before each turn `power` is the power e of 2. Assumes nothing.
use Rattle.powers.proofs.ScalingLaws.{power_start, power_more}
use Rattle.powers.proofs.scaling.doublings.Goals as goal

pub loop-e-init : goal.loop-e-init
loop-e-init c = power_start

pub loop-e-preserved : goal.loop-e-preserved
loop-e-preserved c = power_more _ c.loop-e.invariant c.double-power.ensures
