-- `code::running::fill_row` meets its contract. Assumes nothing.
use Rattle.code.proofs.RunningPowers.{running_filled}
use Rattle.code.proofs.running.fill_row.Goals as goal

pub returns : goal.returns
returns c = running_filled _ _ _ c.fill_powers.ensures
