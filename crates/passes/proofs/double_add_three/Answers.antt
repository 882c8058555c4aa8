-- `passes::double_add_three` meets its contract. Assumes nothing.
use Rattle.std.proofs.Common.{rules, ◌∙◌}
use Rattle.base.proofs.Tables.{table_ext}
use Rattle.passes.specs.Passes.{three}
use Rattle.passes.proofs.Laws.{doubled_plus}
use Rattle.passes.proofs.double_add_three.Goals as goal

pub returns : goal.returns
unfolding three
returns c = table_ext _ _ _ (search rules) (λ i l. let made = c.each.ensures i l in search rules) ∙ doubled_plus _ _
