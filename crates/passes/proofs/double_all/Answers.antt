-- `passes::double_all` meets its contract. Assumes nothing.
use Rattle.std.proofs.Common.{rules}
use Rattle.base.proofs.Tables.{table_ext}
use Rattle.passes.specs.Passes.{doubled}
use Rattle.passes.proofs.double_all.Goals as goal

pub returns : goal.returns
unfolding doubled
returns c = table_ext _ _ _ (search rules) (λ i l. let made = c.each.ensures i l in search rules)
