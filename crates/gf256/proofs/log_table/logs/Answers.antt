-- `gf256::log_table::logs` meets its contract: its table has the logarithms, by the tables' rule. Assumes nothing.
use Rattle.gf256.proofs.Powers.{log_of}
use Rattle.gf256.proofs.log_table.logs.Goals as goal

pub returns : goal.returns
returns c = record { log_at = log_of }
