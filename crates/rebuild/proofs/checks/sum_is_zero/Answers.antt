-- `rebuild::checks::sum_is_zero` meets its contract. Assumes nothing.
use Rattle.rebuild.proofs.ZeroLaws.{sum_told}
use Rattle.rebuild.proofs.checks.sum_is_zero.Goals as goal

pub returns : goal.returns
returns c = sum_told _ _ _ _ _ c.combine.ensures c.is_zero.ensures
