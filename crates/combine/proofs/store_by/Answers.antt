-- `combine::store_by` meets its contract. Assumes nothing.
use mathlib.Core.Path.{refl, ap, ◌∙◌}
use native.Mathlib.Omega.{arith}
use lib.ListN.{replicate}
use Rattle.area.specs.Area.{put}
use Rattle.area.specs.Scratch.{blank}
use Rattle.combine.proofs.Laws.{sum_block}
use Rattle.combine.proofs.store_by.Goals as goal

pub whole_as_front-combine : goal.whole_as_front-combine
whole_as_front-combine g c = (omega (arith, c.requires.b_in_bounds.1), omega (arith, c.requires.b_in_bounds.2))

pub shared_whole_as_slice-copy : goal.shared_whole_as_slice-copy
shared_whole_as_slice-copy g c = omega (arith, c.requires.b_in_bounds.2)

pub returns : goal.returns
unfolding blank
returns g c =
    c.copy.ensures
    ∙ ap (put _ _) (sum_block g.row.S c.args.b _ _ _ _ {z = replicate g.row.S 0} refl (omega (arith, c.requires.b_in_bounds.1))
    c.combine.ensures _)
