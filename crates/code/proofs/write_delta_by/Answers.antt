-- `code::write_delta_by` meets its contract. Assumes nothing.
use mathlib.Core.Path.{refl, ap, ◌∙◌}
use native.Mathlib.Omega.{arith}
use lib.ListN.{replicate}
use Rattle.area.specs.Area.{put}
use Rattle.area.specs.Scratch.{blank}
use Rattle.code.proofs.Laws.{delta_block}
use Rattle.code.proofs.write_delta_by.Goals as goal

pub returns : goal.returns
unfolding blank
returns g c =
    let made = delta_block g.row.S c.args.b _ _ _ _ _ {z = replicate g.row.S 0} refl (omega (arith, c.requires.b_in_bounds.1))
    c.make_delta.ensures _ in
    c.copy.ensures ∙ ap (put _ _) made
