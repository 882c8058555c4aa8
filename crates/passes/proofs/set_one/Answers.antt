-- `passes::set_one` meets its contract. Assumes nothing.
use mathlib.Core.Path.{◌∙◌}
use Rattle.passes.proofs.Laws.{one_copied}
use Rattle.passes.proofs.set_one.Goals as goal

pub returns : goal.returns
returns c = c.copy_from_slice.ensures.after ∙ one_copied _ _ _ c.requires
