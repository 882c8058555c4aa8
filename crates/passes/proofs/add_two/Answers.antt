-- `passes::add_two` meets its contract. Assumes nothing.
use Rattle.std.proofs.Common.{rules}
use Rattle.base.proofs.Tables.{table_ext}
use Rattle.passes.specs.Passes.{plus, two}
use Rattle.passes.proofs.add_two.Goals as goal

pub returns : goal.returns
unfolding plus two
returns c = table_ext _ _ _ (search rules) (λ i l. let made = c.each.ensures i l in search rules)
