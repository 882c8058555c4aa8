-- `powers::scaling::scale_one` meets its contract. Assumes nothing.
use Rattle.powers.proofs.ScalingLaws.{stored_scaled}
use Rattle.powers.proofs.scaling.scale_one.Goals as goal

pub returns-in-Some : goal.returns-in-Some
returns-in-Some c = stored_scaled _ _ _ _ _ c.in-Some.ensures.1 c.set_one.ensures c.double_times.ensures
