-- `gf256::inverse` meets its contract. Assumes nothing.
use mathlib.Core.Path.{◌∙◌}
use borrow.Author.Rules.{rules}
use Rattle.gf256.proofs.Powers.{exp_inv, exp_inv_zero}
use Rattle.gf256.proofs.inverse.Goals as goal

pub returns-then-i-eq0 : goal.returns-then-i-eq0
returns-then-i-eq0 c = c.power.ensures ∙ exp_inv_zero _ _ (search rules) (search rules) c.log-i.ensures.power c.if-i-eq0.true

pub returns-else-i-eq0 : goal.returns-else-i-eq0
returns-else-i-eq0 c = c.power-else-i-eq0.ensures ∙ exp_inv _ _ (search rules) (search rules) c.log-i.ensures.power (search rules)
