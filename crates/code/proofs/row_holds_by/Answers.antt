-- `code::row_holds_by` meets its contract. Assumes nothing.
use mathlib.Core.Path.{refl, ap, ◌∙◌}
use native.Mathlib.Omega.{arith}
use lib.ListN.{replicate}
use Rattle.area.specs.Area.{same_bytes}
use Rattle.area.specs.Scratch.{blank}
use Rattle.code.proofs.Laws.{row_block}
use Rattle.code.proofs.row_holds_by.Goals as goal

pub returns : goal.returns
unfolding blank
returns g c =
    let made = row_block g.row.S c.args.b _ _ _ _ {z = replicate g.row.S 0} refl (omega (arith, c.requires.b_in_bounds.1))
    c.make_row.ensures _ in
    c.equal.ensures ∙ ap (same_bytes _) made
