-- `code::coefficients::coefficient` meets its contract: the table's rule. Assumes nothing.
use borrow.Author.Rules.{rules}
use Rattle.code.proofs.CoefficientTable.{coefficient_at}
use Rattle.code.proofs.coefficients.coefficient.Goals as goal

pub returns : goal.returns
returns c = coefficient_at c.args.j c.args.c (search rules) (search rules)
