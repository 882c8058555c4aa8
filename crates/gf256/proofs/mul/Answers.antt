-- `gf256::mul` meets its contract. Assumes nothing.
use mathlib.Core.Path.{sym, ap, ◌∙◌}
use Prim.Native.Nat.{ℕ}
use borrow.Author.Rules.{rules}
use Rattle.gf256.specs.Field.{mul as product}
use Rattle.gf256.proofs.Product.{mul_zero_l, mul_zero_r}
use Rattle.gf256.proofs.Powers.{exp_log_mul, exp_log_mul_255}
use Rattle.gf256.proofs.mul.Goals as goal
use Rattle.gf256.proofs.mul.Goals.{then-a-eq0-via-then-a-eq0, then-a-eq0-via-else-a-eq0+then-b-eq0}

pub returns-then-a-eq0 : goal.returns-then-a-eq0
returns-then-a-eq0 c =
    let args = c.args in
    elim c.then-a-eq0.branch [
      | then-a-eq0-via-then-a-eq0 w ↦ sym (ap (λ (x : ℕ). product x args.b) w.if-a-eq0.true ∙ mul_zero_l args.b (search rules))
      | then-a-eq0-via-else-a-eq0+then-b-eq0 w ↦ sym (ap (product args.a) w.if-b-eq0.true ∙ mul_zero_r args.a)
    ]

pub returns-then-s-lt255 : goal.returns-then-s-lt255
returns-then-s-lt255 c = c.power.ensures ∙ exp_log_mul _ _ _ _ c.log.ensures.power c.log-2.ensures.power

pub returns-else-s-lt255 : goal.returns-else-s-lt255
returns-else-s-lt255 c = c.power-else-s-lt255.ensures ∙ exp_log_mul_255 _ _ _ _ c.log.ensures.power c.log-2.ensures.power (search rules)
