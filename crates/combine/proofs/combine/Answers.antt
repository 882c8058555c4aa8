-- `combine::combine` meets its contract. Assumes nothing.
use native.Mathlib.Omega.{arith}
use Rattle.combine.proofs.PowerLaws.{single_column, powers_scaled}
use Rattle.combine.proofs.combine.Goals as goal

pub returns-then-n-eq1 : goal.returns-then-n-eq1
returns-then-n-eq1 c = single_column _ _ _ _ _ c.if-n-eq1.true c.scale_one.ensures

pub returns-in-Some : goal.returns-in-Some
returns-in-Some c =
    powers_scaled _ _ _ _ _ c.in-Some.ensures (λ k. omega (arith, c.type_inv.src k)) _ c.block.ensures c.scale.ensures
