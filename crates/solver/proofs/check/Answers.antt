-- `solver::check` meets its contract. Assumes nothing.
use mathlib.Core.Path.{refl, sym, ◌∙◌}
use Rattle.std.proofs.lemmas.Bool.{not-true, not-false}
use Rattle.solver.proofs.PivotRows.{none_is, check_copied, check_zero}
use Rattle.solver.proofs.check.Goals as goal

pub returns-then-is_check : goal.returns-then-is_check
returns-then-is_check c =
    let none = not-true _ (sym (none_is _) ∙ sym c.eq-is_check.ensures ∙ c.if-is_check.true) in
    check_copied _ _ _ _ none refl c.copy.ensures

pub returns-else-is_check : goal.returns-else-is_check
returns-else-is_check c = check_zero _ _ _ (not-false _ (sym (none_is _) ∙ sym c.eq-is_check.ensures ∙ c.if-is_check.false))
