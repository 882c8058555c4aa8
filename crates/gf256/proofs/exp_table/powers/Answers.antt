-- `gf256::exp_table::powers` meets its contract: its table has the powers, by the tables' rule. Assumes nothing.
use Rattle.gf256.proofs.TableRule.{exp_at}
use Rattle.gf256.proofs.exp_table.powers.Goals as goal

pub returns : goal.returns
returns c = record { power_at = exp_at }
