-- `code::make_row` meets its contract. Assumes nothing.
use mathlib.Core.Path.{◌∙◌}
use Rattle.code.specs.Recognised.{PowersOf}
use Rattle.code.proofs.Laws.{filled_row}
use Rattle.code.proofs.Recognising.{powers_row}
use Rattle.code.proofs.make_row.Goals as goal

pub returns-in-Some : goal.returns-in-Some
returns-in-Some c =
    let p : PowersOf c.args.k c.args.j c.in-Some.m = rw c.in-Some.is at c.requires.recognised.powers in
    c.combine_powers.ensures ∙ powers_row _ _ c.args.j _ _ _ p

pub returns-in-None : goal.returns-in-None
returns-in-None c = c.combine.ensures ∙ filled_row _ _ c.args.j _ _ _ c.fill_row.ensures
