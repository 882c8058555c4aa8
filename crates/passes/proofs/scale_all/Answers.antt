-- `passes::scale_all` meets its contract. Assumes nothing.
use Rattle.std.proofs.Common.{rules}
use Rattle.base.proofs.Tables.{table_ext}
use Rattle.passes.specs.Passes.{scaled}
use Rattle.passes.proofs.scale_all.Goals as goal

pub returns : goal.returns
unfolding scaled
returns c = table_ext _ _ _ (search rules) (λ i l. let made = c.each.ensures i l in search rules)
