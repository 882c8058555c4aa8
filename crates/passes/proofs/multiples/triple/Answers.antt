-- `passes::multiples::triple` meets its contract. Assumes nothing.
use mathlib.Core.Path.{sym, ap, ◌∙◌}
use native.Mathlib.Omega.{arith}
use Prim.Native.Nat.{ℕ}
use Rattle.gf256.specs.Field.{◌⊕◌}
use Rattle.passes.proofs.Times.{mul_three}
use Rattle.passes.proofs.multiples.triple.Goals as goal

pub returns : goal.returns
returns c =
    let x = c.args.x in
    ap (λ (y : ℕ). y ⊕ x) c.double.ensures ∙ sym (mul_three x (omega arith))
