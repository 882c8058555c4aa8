-- `code::multiplier` meets its contract. Assumes nothing.
use Rattle.code.proofs.Recognising.{recognised}
use Rattle.code.proofs.multiplier.Goals as goal

pub returns : goal.returns
returns c = recognised _ _ _ _ c.fill.ensures c.ratio.ensures
