-- `passes::step` meets its contract. Assumes nothing.
use Rattle.std.proofs.Common.{rules, ◌∙◌}
use Rattle.base.proofs.Tables.{table_ext}
use Rattle.passes.specs.Passes.{one}
use Rattle.passes.proofs.Laws.{scaled_plus}
use Rattle.passes.proofs.step.Goals as goal

pub returns : goal.returns
unfolding one
returns g c = table_ext _ _ _ (search rules) (λ i l. let made = c.each.ensures i l in search rules) ∙ scaled_plus _ _ _
