-- `passes::multiples::eightfold` meets its contract. Assumes nothing.
use mathlib.Core.Path.{sym, ap, ◌∙◌}
use native.Mathlib.Omega.{arith}
use Rattle.gf256.specs.Field.{xtime}
use Rattle.passes.proofs.Times.{mul_eight}
use Rattle.passes.proofs.multiples.eightfold.Goals as goal

pub returns : goal.returns
returns c =
    let double = c.double in
    let double2 = c.double-2 in
    let x = c.args.x in
    c.double-3.ensures ∙ ap xtime (double2.ensures ∙ ap xtime double.ensures) ∙ sym (mul_eight x (omega arith))
