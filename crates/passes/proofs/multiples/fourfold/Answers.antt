-- `passes::multiples::fourfold` meets its contract. Assumes nothing.
use mathlib.Core.Path.{sym, ap, ◌∙◌}
use native.Mathlib.Omega.{arith}
use Rattle.gf256.specs.Field.{xtime}
use Rattle.passes.proofs.Times.{mul_four}
use Rattle.passes.proofs.multiples.fourfold.Goals as goal

pub returns : goal.returns
returns c = c.double-2.ensures ∙ ap xtime c.double.ensures ∙ sym (mul_four c.args.x (omega arith))
