-- `gf256::double` meets its contract. Assumes nothing.
use borrow.Author.Rules.{rules}
use Rattle.gf256.proofs.Doubling.{double_xtime}
use Rattle.gf256.proofs.double.Goals as goal

pub returns : goal.returns
returns c = double_xtime c.args.x (search rules)
