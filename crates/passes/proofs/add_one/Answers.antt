-- `passes::add_one` meets its contract. Assumes nothing.
use Rattle.std.proofs.Common.{rules}
use Rattle.base.proofs.Tables.{table_ext}
use Rattle.passes.specs.Passes.{plus, one}
use Rattle.passes.proofs.add_one.Goals as goal

pub returns : goal.returns
unfolding plus one
returns c = table_ext _ _ _ (search rules) (λ i l. let made = c.each.ensures i l in search rules)
