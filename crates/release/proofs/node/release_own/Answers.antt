-- `release::node::release_own` meets its contract. Assumes nothing.
use mathlib.Core.Path.{ap, ◌∙◌}
use Rattle.release.specs.Own.{own_zeroed, own_released}
use Rattle.release.proofs.node.release_own.Goals as goal

pub returns : goal.returns
unfolding own_released
returns c = c.zero_own.ensures ∙ ap (own_zeroed c.args.z.shape c.args.w) c.move_own.ensures
