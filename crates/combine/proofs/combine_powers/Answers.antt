-- `combine::combine_powers` meets its contract. Assumes nothing.
use mathlib.Core.Path.{◌∙◌}
use native.Mathlib.Omega.{arith}
use Rattle.combine.proofs.PowerLaws.{powers_alone}
use Rattle.combine.proofs.combine_powers.Goals as goal

pub returns : goal.returns
returns c =
    c.block.ensures
    ∙ powers_alone _ _ _ _ _ c.requires.multiplier c.requires.n_nonzero (λ k. omega (arith, c.type_inv.src k))
